-- Readers that kept their bytes through reads that failed, and words out of their bytes.
use Rattle.std.proofs.Common.{ℕ, List, take, refl, sym, ◌∙◌, Some, None, Ok, Err}
use Rattle.std.specs.declared.option.Option.{Option}
use Rattle.std.specs.declared.result.Result.{Result}
use Rattle.std.specs.Io.KnownBytes.{Keeps, Consumes, ReadConsumes}

pub keeps_itself : (known : Option (List ℕ)) → Keeps known known
keeps_itself None = tt
keeps_itself (Some xs) = refl

pub keeps_on : (a b c : Option (List ℕ)) → Keeps a b → Keeps b c → Keeps a c
keeps_on None b c h k = tt
keeps_on (Some xs) None c h k = absurd h
keeps_on (Some xs) (Some ys) None h k = absurd k
keeps_on (Some xs) (Some ys) (Some zs) h k = k ∙ h

consumes_on : (a b c : Option (List ℕ)) (bs : List ℕ) → Keeps a b → Consumes b c bs → Consumes a c bs
consumes_on None b c bs h k = tt
consumes_on (Some xs) None c bs h k = absurd h
consumes_on (Some xs) (Some ys) None bs h k = absurd k
consumes_on (Some xs) (Some ys) (Some zs) bs h k = sym h ∙ k

pub reads_on : {E : Type 0} (a b c : Option (List ℕ)) (r : Result ℕ E) (buf : List ℕ) → Keeps a b → ReadConsumes b c r buf → ReadConsumes a c r buf
reads_on a b c (Ok n) buf h k = (consumes_on a b c (take n buf) h k.0, k.1)
reads_on a b c (Err e) buf h k = keeps_on a b c h k
