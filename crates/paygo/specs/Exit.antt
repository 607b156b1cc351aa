-- How the program ends.
use Rattle.std.specs.Prelude.{ℕ, List, [], ◌++◌, Some, None, codes}
use Rattle.std.specs.declared.io.ErrorKind.{ErrorKind}
use Rattle.std.specs.declared.io.ErrorKind.TheVariants.{OutOfMemory}
use Rattle.std.specs.declared.option.Option.{Option}
use Rattle.run_spec.specs.declared.Status.{Status}
use Rattle.run_spec.specs.declared.Status.TheVariants as status
use Rattle.command_words.specs.Forms.{message_of}

-- The number with which the program ends, by how its run ended.
abbrev pub exit_of : Status → ℕ
exit_of status.Ok = 0
exit_of status.Usage = 2
exit_of status.Read = 3
exit_of status.Write = 4
exit_of status.Keep = 5
exit_of status.Memory = 6
exit_of status.Long = 7

-- How it ended where its words could not be taken: there was no memory for them, or they are no text.
abbrev pub ended_by : ErrorKind → Status
ended_by OutOfMemory = status.Memory
ended_by _ = status.Usage

-- A message as a line, or nothing.
abbrev pub line_of : Option (List ℕ) → List ℕ
line_of None = []
line_of (Some text) = text ++ codes "\n"

-- What is written to standard error, by how the run ended.
abbrev pub line_for : Status → List ℕ
line_for status = line_of (message_of status)
