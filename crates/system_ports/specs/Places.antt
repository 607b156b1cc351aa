-- Places in a file, and words out of its bytes.
use Rattle.std.specs.Prelude.{◌≡◌, ℕ, List, length, drop, Some}
use Rattle.std.specs.declared.option.Option.{Option}
use Rattle.std.specs.Int.{w64, from_be_bytes}
use Rattle.std.specs.Io.KnownBytes.{Consumes}

-- A reader that can seek reads from where it stands: where it tells its bytes and its position, the bytes left are those
-- from there on.
pub record ReadsFromThere {F : Type 0} (remaining : F → Option (List ℕ)) (position : F → Option ℕ)
    (bytes : F → Option (List ℕ)) : Type 0 where
  pub from : (file : F) (all : List ℕ) (here : ℕ) → bytes file ≡ Some all → position file ≡ Some here →
      remaining file ≡ Some (drop here all)

-- The next eight bytes were taken, and the word is their number, of which the first byte is the most significant.
pub record NextWord (word : ℕ) (old new : Option (List ℕ)) : Type 0 where
  pub bytes : List ℕ
  pub count : length bytes ≡ 8
  pub next : Consumes old new bytes
  pub value : word ≡ from_be_bytes w64 bytes
