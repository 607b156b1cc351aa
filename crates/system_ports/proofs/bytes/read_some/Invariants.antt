use Rattle.std.specs.Io.KnownBytes.{Keeps}
use Rattle.system_ports.proofs.bytes.read_some.Given as goal

-- The reads that were interrupted took nothing.
abbrev pub invariant-loop : goal.invariant-loop
invariant-loop g l = Keeps (g.F.Read.remaining l.initial.reader) (g.F.Read.remaining l.reader)
