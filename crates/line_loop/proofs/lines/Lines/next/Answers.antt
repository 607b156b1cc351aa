use Rattle.std.proofs.Common.{rules, sym, ◌∙◌, subst, ap, refl, true, false, ◌≡◌}
use Rattle.line_loop.specs.Reader.{LinesView}
use Rattle.line_loop.specs.Gather.{IsPiece}
use Rattle.line_loop.proofs.Gathering.{begun_with, gathered_fits, goes_on, whole_line, at_end, filled, not_filled}
use Rattle.line_loop.proofs.lines.Lines.next.Goals as goal

pub loop-length-init : goal.loop-length-init
loop-length-init g c =
    let fields = c.self.inside in
    begun_with fields.block fields.start fields.end _ _ _ _ _ _ c.self.view_is c.self.invariant.2 c.self.invariant.3 (search rules)

pub take_piece-size-requires : goal.take_piece-size-requires
take_piece-size-requires g c = gathered_fits _ _ _ _ _ _ c.loop-length.invariant

pub returns-then-whole : goal.returns-then-whole
returns-then-whole g c =
    let piece = subst (λ b. IsPiece c.take_piece-size.result.0 b c.loop-length.length c.loop-length.line c.take_piece-size.new.line c.loop-length.self c.take_piece-size.new.self) c.if-whole.true c.take_piece-size.ensures in
    rw c.handed.ensures (whole_line _ _ _ _ _ _ c.loop-length.invariant _ _ _ piece)

pub returns-then-self : goal.returns-then-self
returns-then-self g c =
    let piece = subst (λ b. IsPiece c.take_piece-size.result.0 b c.loop-length.length c.loop-length.line c.take_piece-size.new.line c.loop-length.self c.take_piece-size.new.self) c.if-whole.false c.take_piece-size.ensures in
    let so_far = goes_on _ _ _ _ _ _ c.loop-length.invariant _ _ _ piece in
    let ended : c.take_piece-size.new.self.ended ≡ true = ap (λ (v : LinesView). v.ended) (sym c.self-in-loop-length.view_is) ∙ c.if-self.true in
    rw c.last.ensures (at_end _ _ _ _ _ _ so_far (piece.none refl) ended)

pub loop-length-preserved : goal.loop-length-preserved
loop-length-preserved g c =
    let piece = subst (λ b. IsPiece c.take_piece-size.result.0 b c.loop-length.length c.loop-length.line c.take_piece-size.new.line c.loop-length.self c.take_piece-size.new.self) c.if-whole.false c.take_piece-size.ensures in
    let so_far = goes_on _ _ _ _ _ _ c.loop-length.invariant _ _ _ piece in
    let unended : c.take_piece-size.new.self.ended ≡ false = ap (λ (v : LinesView). v.ended) (sym c.self-in-loop-length.view_is) ∙ c.if-self.false in
    filled _ _ _ _ _ _ so_far c.in-Ok.field-0 _ _ (piece.none refl) unended c.in-Ok.ensures

pub returns-in-Err : goal.returns-in-Err
returns-in-Err g c =
    let piece = subst (λ b. IsPiece c.take_piece-size.result.0 b c.loop-length.length c.loop-length.line c.take_piece-size.new.line c.loop-length.self c.take_piece-size.new.self) c.if-whole.false c.take_piece-size.ensures in
    let so_far = goes_on _ _ _ _ _ _ c.loop-length.invariant _ _ _ piece in
    let unended : c.take_piece-size.new.self.ended ≡ false = ap (λ (v : LinesView). v.ended) (sym c.self-in-loop-length.view_is) ∙ c.if-self.false in
    not_filled _ _ _ _ _ _ so_far c.in-Err.fault _ _ (piece.none refl) unended c.in-Err.ensures
