use Rattle.std.proofs.Common.{◌≡◌, true, false, [], ◌∷◌, ◌++◌, sym, ap, subst, ◌∙◌, rules}
use Rattle.std.specs.List.{list_any}
use Rattle.std.proofs.lemmas.List.{map-append}
use Rattle.log_check.specs.Same.{same_stored}
use Rattle.log_check.specs.Standing.{stored_of}
use Rattle.log_check.specs.Keeping.{AreStandings, storeds_of}
use Rattle.log_check.proofs.Gathering.{put_old, put_new, among_is, standings_more}
use Rattle.log_check.proofs.same.put.Goals as goal

pub returns-then-is_among-clause-puts : goal.returns-then-is_among-clause-puts
returns-then-is_among-clause-puts c =
    let list = c.args.standings.now.items in
    let one = c.args.standing.now in
    let among : list_any (λ other. same_stored (stored_of one) (stored_of other)) list ≡ true = search rules in
    sym (put_old (storeds_of list) (stored_of one) (among_is list one true among))

pub returns-in-Ok-clause-puts : goal.returns-in-Ok-clause-puts
returns-in-Ok-clause-puts c =
    let list = c.args.standings.now.items in
    let one = c.args.standing.now in
    let among : list_any (λ other. same_stored (stored_of one) (stored_of other)) list ≡ false = search rules in
    let more : c.push.new.self.items ≡ list ++ one ∷ [] = search rules in
    ap storeds_of more ∙ map-append stored_of list (one ∷ [])
    ∙ sym (put_new (storeds_of list) (stored_of one) (among_is list one false among))

pub returns-in-Ok-clause-range : goal.returns-in-Ok-clause-range
returns-in-Ok-clause-range c are one =
    let list = c.args.standings.now.items in
    let more : c.push.new.self.items ≡ list ++ c.args.standing.now ∷ [] = search rules in
    subst AreStandings (sym more) (standings_more list c.args.standing.now are one)
