-- Sources and sinks of bytes. What is seen of them only grows: a source shows what it handed out so far, and a sink what it
-- took. So a clause speaks of the bytes that went through, whatever object they went through.
use Rattle.std.specs.Prelude.{◌≡◌, ℕ, ◌<◌, ◌≤◌, List, length, take, ◌++◌, Bool, if◌then◌else◌, ◌==◌}
use Rattle.std.specs.declared.option.Option.{Option}
use Rattle.std.specs.Io.KnownBytes.{prepend_known, IsAtEnd}
use Rattle.paygo_spec.specs.Faults.{Rose}

-- What is seen of a source: the bytes that it handed out so far, the bytes left where it tells them, whether it has told its
-- end, and its count of faults.
pub record SourceView : Type 0 where
  pub given : List ℕ
  pub left : Option (List ℕ)
  pub ended : Bool
  pub faults : ℕ

-- A read into this buffer gave n bytes, the next ones of the source. It gives none only at the end, or into no room.
pub record Gives (n : ℕ) (buf : List ℕ) (old new : SourceView) : Type 0 where
  pub bound : n ≤ length buf
  pub given : new.given ≡ old.given ++ take n buf
  pub left : old.left ≡ prepend_known (take n buf) new.left
  pub ended : new.ended ≡ (if length buf == 0 then old.ended else n == 0)
  pub nothing : n ≡ 0 → 0 < length buf → IsAtEnd new.left
  pub faults : new.faults ≡ old.faults

-- A read failed, and gave nothing.
pub record GivesNothing (old new : SourceView) : Type 0 where
  pub given : new.given ≡ old.given
  pub left : new.left ≡ old.left
  pub ended : new.ended ≡ old.ended
  pub rose : Rose old.faults new.faults

-- What is seen of a sink: the bytes that it took so far, and its count of faults.
pub record SinkView : Type 0 where
  pub written : List ℕ
  pub faults : ℕ

-- A write of these bytes took the first n of them, and at least one where there are some.
pub record Takes (n : ℕ) (bytes : List ℕ) (old new : SinkView) : Type 0 where
  pub bound : n ≤ length bytes
  pub some : 0 < length bytes → 0 < n
  pub written : new.written ≡ old.written ++ take n bytes
  pub faults : new.faults ≡ old.faults

-- A write failed, and took nothing.
pub record TakesNothing (old new : SinkView) : Type 0 where
  pub written : new.written ≡ old.written
  pub rose : Rose old.faults new.faults
