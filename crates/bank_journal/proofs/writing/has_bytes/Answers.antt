use Rattle.std.proofs.Common.{rules, arith}
use Rattle.bank_journal.proofs.writing.has_bytes.Goals as goal

pub returns : goal.returns
returns c = record { count = search rules; each = λ i. omega (arith, c.type_inv.key i) }
