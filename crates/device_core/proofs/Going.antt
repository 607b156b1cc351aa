-- A device that was made goes on at an event: it stays as it is, or takes one entry more, or the flash fails.
use Rattle.std.proofs.Common.{◌≡◌, ◌≢◌, ◌⊎◌, inl, inr, ℕ, ◌<◌, Bool, true, false, ◌==◌, List, [], ◌∷◌, if◌then◌else◌, Option, Some, None, IfSome, refl, sym, ap, ◌∙◌, arith, subst}
use Rattle.std.proofs.lemmas.Bool.Decides.{nat_tests}
use Rattle.paygo_spec.specs.declared.Entry.{Entry}
use Rattle.paygo_spec.specs.declared.Entry.TheVariants.{Accept, Bad, Elapsed, Raised}
use Rattle.paygo_spec.specs.declared.Reply.{Reply}
use Rattle.paygo_spec.specs.declared.Reply.TheVariants as reply_is
use Rattle.paygo_spec.specs.declared.TokenKind.{TokenKind}
use Rattle.paygo_spec.specs.declared.TokenKind.TheVariants.{Add, Set, Free, Sync}
use Rattle.paygo_spec.specs.Flash.{DueAfter, FlashView, Becomes}
use Rattle.paygo_spec.specs.Clock.{ClockView, clock_at_start}
use Rattle.paygo_spec.specs.History.{first_limit, kind_of}
use Rattle.paygo_spec.specs.Lawful.{MayFollow, follows}
use Rattle.paygo_spec.specs.Layout.{Position, last_bank, room, further, turned, calls_of_entry}
use Rattle.paygo_spec.specs.Recovery.{JournalView, recover}
use Rattle.paygo_spec.specs.Recovery as recovered
use Rattle.paygo_spec.specs.Snapshot.{snapshot}
use Rattle.paygo_spec.specs.Machine as machine
use Rattle.paygo_spec.specs.Machine.{History, Stored, Journal, Effect, StandsAs, Stands, unit_for, gone_on, clock_at, reply_to_token, reply_to_entry, MayAdd, MayRaise, Meets, calls_of_effect}
use Rattle.paygo_spec.proofs.Snapshots.{snapshot_may, snapshot_more}
use Rattle.paygo_spec.proofs.Entries.{follows_is}
use Rattle.journal_laws.specs.Journal.{with_entry, raised_journal, IsCut}
use Rattle.device_core.specs.Decided.{MayDo, decision_of}
use Rattle.device_core.specs.Memory.{Costs}
use Rattle.device_core.specs.Changes.{Stays, Added, CutOff, AddsAs, RaisedNow, CutRaise, RaisesAs, CarriedOut}
use Rattle.device_core.proofs.Stands.{as_stands, becomes_stands, journal_of, IsLawful}
use Rattle.device_core.proofs.Effects.{GoesOn, Lasts}

-- no call is made
pub due_none : (due : Option (Option ℕ)) → DueAfter 0 due due
due_none None = refl
due_none (Some None) = refl
due_none (Some (Some n)) = (omega arith, ap (λ (m : ℕ). Some (Some m)) (omega arith))

-- the reply to an entry says neither that the flash failed nor that there is no room
token_fair : (kind : Option TokenKind) (count value : ℕ) (clock : ClockView)
    → (reply_to_token kind count value clock ≢ reply_is.Down) × (reply_to_token kind count value clock ≢ reply_is.Worn)
token_fair (Some Add) count value clock = (λ e. cc, λ e. cc)
token_fair (Some Set) count value clock = (λ e. cc, λ e. cc)
token_fair (Some Free) count value clock = (λ e. cc, λ e. cc)
token_fair (Some Sync) count value clock = (λ e. cc, λ e. cc)
token_fair None count value clock = (λ e. cc, λ e. cc)

fair : (entry : Entry) (clock : ClockView) → (reply_to_entry entry clock ≢ reply_is.Down) × (reply_to_entry entry clock ≢ reply_is.Worn)
fair (Accept count value) clock = token_fair (kind_of count value) count value clock
fair Bad clock = (λ e. cc, λ e. cc)
fair (Elapsed seconds) clock = (λ e. cc, λ e. cc)
fair Raised clock = (λ e. cc, λ e. cc)

-- what is answered to an entry that was added says so
by_reply : (entry : Entry) (old : JournalView) (was : FlashView) (reply : Reply) (new : JournalView) (now : FlashView) → reply ≢ reply_is.Down → reply ≢ reply_is.Worn → Added entry old was reply new now → AddsAs entry old was reply new now
by_reply entry old was reply_is.Worn new now down worn added = absurd (worn refl)
by_reply entry old was reply_is.Down new now down worn added = absurd (down refl)
by_reply entry old was _ new now down worn added = added

pub added_as : (entry : Entry) (old : JournalView) (was : FlashView) (reply : Reply) (new : JournalView) (now : FlashView) (clock : ClockView) → reply ≡ reply_to_entry entry clock → Added entry old was reply new now → AddsAs entry old was reply new now
added_as entry old was reply new now clock is added =
    by_reply entry old was reply new now (λ e. (fair entry clock).0 (sym is ∙ e)) (λ e. (fair entry clock).1 (sym is ∙ e)) added

-- the three ways of an entry that is to be added
abbrev pub OneOf : Entry → JournalView → FlashView → Reply → JournalView → FlashView → Type 0
OneOf entry old was reply new now =
    ((reply ≡ reply_is.Worn) × (room old.at ≡ 0) × Stays old new was now)
    ⊎ (((reply ≡ reply_is.Down) × CutOff entry old was now) ⊎ ((reply ≢ reply_is.Worn) × (reply ≢ reply_is.Down) × Added entry old was reply new now))

pub one_of : (entry : Entry) (old : JournalView) (was : FlashView) (reply : Reply) (new : JournalView) (now : FlashView) → AddsAs entry old was reply new now → OneOf entry old was reply new now
one_of entry old was reply_is.Worn new now adds = inl (refl, adds.0, adds.1)
one_of entry old was reply_is.Down new now adds = inr (inl (refl, adds))
one_of entry old was _ new now adds = inr (inr (λ e. cc, λ e. cc, adds))

-- the three ways of a raise
abbrev pub OneOfRaise : JournalView → FlashView → Reply → JournalView → FlashView → Type 0
OneOfRaise old was reply new now =
    ((reply ≡ reply_is.Worn) × (old.at.number ≡ last_bank) × Stays old new was now)
    ⊎ (((reply ≡ reply_is.Down) × CutRaise old was now) ⊎ ((reply ≢ reply_is.Worn) × (reply ≢ reply_is.Down) × RaisedNow old was reply new now))

pub one_of_raise : (old : JournalView) (was : FlashView) (reply : Reply) (new : JournalView) (now : FlashView) → RaisesAs old was reply new now → OneOfRaise old was reply new now
one_of_raise old was reply_is.Worn new now raises = inl (refl, raises.0, raises.1)
one_of_raise old was reply_is.Down new now raises = inr (inl (refl, raises))
one_of_raise old was _ new now raises = inr (inr (λ e. cc, λ e. cc, raises))

may_raise : (history : History) (reply : Reply) → reply ≢ reply_is.Worn → reply ≢ reply_is.Down → history.at.number ≢ last_bank → reply ≡ reply_is.Raised
    → MayRaise history (Some reply) (Journal (gone_on history (Raised ∷ history.entries) (turned history.at)))
may_raise history reply_is.Worn full down some is = absurd (full refl)
may_raise history reply_is.Down full down some is = absurd (down refl)
may_raise history _ full down some is = (some, ap Some is, refl)

-- an entry is added with this reply
may_add : (history : History) (entry : Entry) (reply : Reply) → reply ≢ reply_is.Worn → reply ≢ reply_is.Down → 0 < room history.at
    → reply ≡ reply_to_entry entry (clock_at history (entry ∷ history.entries)) → MayAdd history entry (Some reply) (Journal (gone_on history (entry ∷ history.entries) (further history.at)))
may_add history entry reply_is.Worn full down some is = absurd (full refl)
may_add history entry reply_is.Down full down some is = absurd (down refl)
may_add history entry _ full down some is = (some, ap Some is, refl)

-- the calls of an event whose reply isn't that the flash failed
pub costs_after : (calls : ℕ) (reply : Option Reply) (was now : FlashView) → reply ≢ Some reply_is.Down → DueAfter calls was.due now.due → Costs (Some calls) reply was now
costs_after calls None was now other due = due
costs_after calls (Some reply_is.Down) was now other due = absurd (other refl)
costs_after calls (Some _) was now other due = due

pub costs_none : (reply : Option Reply) (was now : FlashView) → reply ≢ Some reply_is.Down → now ≡ was → Costs (Some 0) reply was now
costs_none reply was now other kept = costs_after 0 reply was now other (subst (λ (v : FlashView). DueAfter 0 was.due v.due) (sym kept) (due_none was.due))

-- The words that stood for the history stand for this now.
abbrev pub StandOn : History → FlashView → FlashView → Stored → Type 0
StandOn history was now after = Stands was.words (Journal history) → Stands now.words after

-- Where a device that was made went to at an event with this effect.
pub data Went (history : History) (effect : Effect) (was : FlashView) (reply : Option Reply) (new : JournalView) (now : FlashView) : Type 0 where
  Fell : reply ≡ Some reply_is.Down → (after : Stored) → Meets history effect (Some reply_is.Down) after → StandOn history was now after
      → Costs (Some (calls_of_effect history.at effect)) (Some reply_is.Down) was now → Went history effect was reply new now
  Moved : reply ≢ Some reply_is.Down → (after : Stored) → Meets history effect reply after → StandsAs (recovered.Made new) after → StandOn history was now after
      → Costs (Some (calls_of_effect history.at effect)) reply was now → Went history effect was reply new now

module _ (history : History) (bank : ℕ) (lawful : IsLawful history) where
  abbrev journal : JournalView
  journal = journal_of history bank

  abbrev with_it : Entry → List Entry
  with_it entry = entry ∷ history.entries

  -- an entry that may follow the summary may follow the history
  may_follow : (entry : Entry) → follows journal.summary entry ≡ true → MayFollow (unit_for history) history.start history.entries entry
  may_follow entry may =
      (snapshot_may (unit_for history) history.start history.entries entry).1 ((follows_is (unit_for history) journal.summary entry).0 may).0

  -- a journal at this position with the entry, or without it
  with_stands : (entry : Entry) (bank : ℕ) (at : Position) → follows journal.summary entry ≡ true
      → StandsAs (recovered.Made (record { bank = bank; at = at; config = history.config; summary = snapshot (unit_for history) journal.summary (entry ∷ []) })) (Journal (gone_on history (with_it entry) at))
  with_stands entry bank at may = (refl, refl, sym (snapshot_more (unit_for history) history.start history.entries entry), (lawful, may_follow entry may))

  with_is : (entry : Entry) (new : JournalView) → new ≡ with_entry entry journal → follows journal.summary entry ≡ true
      → StandsAs (recovered.Made new) (Journal (gone_on history (with_it entry) (further history.at)))
  with_is entry new is may =
      subst (λ (j : JournalView). StandsAs (recovered.Made j) (Journal (gone_on history (with_it entry) (further history.at)))) (sym is)
      (with_stands entry (with_entry entry journal).bank (further history.at) may)

  -- the clock after it is that of the history with it
  clock_with_it : (entry : Entry) (new : JournalView) → new ≡ with_entry entry journal → clock_at_start new.summary ≡ clock_at history (with_it entry)
  clock_with_it entry new is =
      ap (λ (j : JournalView). clock_at_start j.summary) is
      ∙ ap clock_at_start (sym (snapshot_more (unit_for history) history.start history.entries entry))

  -- what a cut left stands for the history with the entry or without it
  cut_stands : (entry : Entry) (counted : Bool) (now : JournalView) → follows journal.summary entry ≡ true → now.config ≡ history.config
      → now.summary ≡ (if counted then snapshot (unit_for history) journal.summary (entry ∷ []) else journal.summary)
      → StandsAs (recovered.Made now) (Journal (gone_on history (if counted then with_it entry else history.entries) now.at))
  cut_stands entry true now may config summary = (config, refl, summary ∙ sym (snapshot_more (unit_for history) history.start history.entries entry), (lawful, may_follow entry may))
  cut_stands entry false now may config summary = (config, refl, summary, lawful)

  -- where the words aren't told, it is taken not to count
  cut_told : (entry : Entry) (old new : Option (List ℕ)) → follows journal.summary entry ≡ true → 0 < room history.at → Becomes (λ before words. IsCut entry journal words) old new
      → (after : Stored) × MayAdd history entry (Some reply_is.Down) after × (Stands old (Journal history) → Stands new after)
  cut_told entry None None may some cut = (Journal (gone_on history history.entries history.at), (some, (false, history.at, inl refl, refl)), λ stands. absurd stands)
  cut_told entry None (Some new) may some cut = absurd cut
  cut_told entry (Some old) None may some cut = absurd cut
  cut_told entry (Some old) (Some new) may some cut = (
    Journal (gone_on history (if cut.counted then with_it entry else history.entries) cut.now.at),
    (some, (cut.counted, cut.now.at, cut.position, refl)),
    λ stands.
        subst (λ (r : recovered.Recovered). StandsAs r (Journal (gone_on history (if cut.counted then with_it entry else history.entries) cut.now.at))) (sym cut.recovered)
        (cut_stands entry cut.counted cut.now may cut.config cut.summary),
  )

  -- the raised journal stands for the raised history
  raised_stands : journal.summary.limit ≡ first_limit → StandsAs (recovered.Made (raised_journal journal)) (Journal (gone_on history (Raised ∷ history.entries) (turned history.at)))
  raised_stands first = (refl, refl, sym (snapshot_more (unit_for history) history.start history.entries Raised), (lawful, first))

  raised_either : (words : List ℕ) → journal.summary.limit ≡ first_limit → history.at.number ≢ last_bank → (recover words ≡ recovered.Made journal) ⊎ (recover words ≡ recovered.Made (raised_journal journal))
      → (after : Stored) × MayRaise history (Some reply_is.Down) after × StandsAs (recover words) after
  raised_either words first some (inl e) = (Journal history, (some, inl refl), subst (λ (r : recovered.Recovered). StandsAs r (Journal history)) (sym e) (refl, refl, refl, lawful))
  raised_either words first some (inr e) =
      let after : Stored = Journal (gone_on history (Raised ∷ history.entries) (turned history.at)) in
      (after, (some, inr refl), subst (λ (r : recovered.Recovered). StandsAs r after) (sym e) (raised_stands first))

  raised_told : (old new : Option (List ℕ)) → journal.summary.limit ≡ first_limit → history.at.number ≢ last_bank
      → Becomes (λ before words. (recover words ≡ recovered.Made journal) ⊎ (recover words ≡ recovered.Made (raised_journal journal))) old new
      → (after : Stored) × MayRaise history (Some reply_is.Down) after × (Stands old (Journal history) → Stands new after)
  raised_told None None first some cut = (Journal history, (some, inl refl), λ stands. absurd stands)
  raised_told None (Some new) first some cut = absurd cut
  raised_told (Some old) None first some cut = absurd cut
  raised_told (Some old) (Some new) first some cut = let told = raised_either new first some cut in (told.0, told.1, λ stands. told.2)

  no_raise : history.at.number ≡ last_bank → calls_of_effect history.at machine.Raises ≡ 0
  no_raise none = let test : (history.at.number == last_bank) ≡ true = grind (arith, nat_tests) in rw test refl

  all_calls : history.at.number ≢ last_bank → calls_of_effect history.at machine.Raises ≡ 13
  all_calls some = let test : (history.at.number == last_bank) ≡ false = grind (arith, nat_tests) in rw test refl

  no_calls : room history.at ≡ 0 → calls_of_entry history.at ≡ 0
  no_calls none = let test : (room history.at == 0) ≡ true = grind (arith, nat_tests) in rw test refl

  module _ (was now : FlashView) (new : JournalView) (backs : IfSome was.words (λ words. recover words ≡ recovered.Made journal)) where
    -- nothing changed
    stayed : (effect : Effect) (reply : Option Reply) (entries : List Entry) → reply ≢ Some reply_is.Down → Meets history effect reply (Journal (gone_on history entries history.at))
        → calls_of_effect history.at effect ≡ 0 → GoesOn journal history entries → Stays journal new was now → Went history effect was reply new now
    stayed effect reply entries other meets none goes stays =
        let after : Stored = Journal (gone_on history entries history.at) in
        Moved other after meets (subst (λ (j : JournalView). StandsAs (recovered.Made j) after) (sym stays.same) goes)
        (λ stands. subst (λ (v : FlashView). Stands v.words after) (sym stays.kept) (as_stands was.words (recovered.Made journal) (Journal history) after backs stands goes))
        (subst (λ (n : ℕ). Costs (Some n) reply was now) (sym none) (costs_none reply was now other stays.kept))

    added : (entry : Entry) (reply : Reply) → follows journal.summary entry ≡ true → OneOf entry journal was reply new now → Went history (machine.Adds entry) was (Some reply) new now
    added entry reply may (inl (worn, none, stays)) =
        subst (λ (r : Reply). Went history (machine.Adds entry) was (Some r) new now) (sym worn)
        (stayed (machine.Adds entry) (Some reply_is.Worn) history.entries (λ e. cc) (none, refl) (no_calls none) (refl, refl, refl, lawful) stays)
    added entry reply may (inr (inl (down, cut))) =
        let some : 0 < room history.at = (let z = cut.some_room in omega arith) in
        let told = cut_told entry was.words now.words may some cut.words in
        Fell (ap Some down) told.0 told.1 told.2 cut.calls.due
    added entry reply may (inr (inr (full, down, ok))) =
        let other : Some reply ≢ Some reply_is.Down = (λ e. down (let same : reply ≡ reply_is.Down = cc in same)) in
        let some : 0 < room history.at = (let z = ok.some_room in omega arith) in
        let after : Stored = Journal (gone_on history (with_it entry) (further history.at)) in
        let now_stands : StandsAs (recovered.Made new) after = with_is entry new ok.journal may in
        Moved other after (may_add history entry reply full down some (ok.reply_is ∙ ap (reply_to_entry entry) (clock_with_it entry new ok.journal))) now_stands
        (λ stands. becomes_stands was.words now.words (recovered.Made new) (Journal history) after ok.words stands now_stands)
        (costs_after (calls_of_entry history.at) (Some reply) was now other ok.calls.due)

    raised : (reply : Reply) → journal.summary.limit ≡ first_limit → OneOfRaise journal was reply new now → Went history machine.Raises was (Some reply) new now
    raised reply first (inl (worn, none, stays)) =
        subst (λ (r : Reply). Went history machine.Raises was (Some r) new now) (sym worn)
        (stayed machine.Raises (Some reply_is.Worn) history.entries (λ e. cc) (none, refl) (no_raise none) (refl, refl, refl, lawful) stays)
    raised reply first (inr (inl (down, cut))) =
        let told = raised_told was.words now.words first cut.some_bank cut.words in
        Fell (ap Some down) told.0 told.1 told.2 (subst (λ (n : ℕ). Costs (Some n) (Some reply_is.Down) was now) (sym (all_calls cut.some_bank)) cut.calls.due)
    raised reply first (inr (inr (full, down, ok))) =
        let other : Some reply ≢ Some reply_is.Down = (λ e. down (let same : reply ≡ reply_is.Down = cc in same)) in
        let after : Stored = Journal (gone_on history (Raised ∷ history.entries) (turned history.at)) in
        let now_stands : StandsAs (recovered.Made new) after = subst (λ (j : JournalView). StandsAs (recovered.Made j) after) (sym ok.journal) (raised_stands first) in
        Moved other after (may_raise history reply full down ok.some_bank ok.reply_is) now_stands
        (λ stands. becomes_stands was.words now.words (recovered.Made new) (Journal history) after ok.words stands now_stands)
        (subst (λ (n : ℕ). Costs (Some n) (Some reply) was now) (sym (all_calls ok.some_bank)) (costs_after 13 (Some reply) was now other ok.calls.due))

    pub went : (effect : Effect) (reply : Option Reply) → IfSome (decision_of effect) (MayDo journal) → Lasts journal history effect
        → CarriedOut (decision_of effect) journal was reply new now → Went history effect was reply new now
    went (machine.Answers None entries) reply may goes (none, stays) =
        stayed (machine.Answers None entries) reply entries (λ e. (let bad : None ≡ Some reply_is.Down = sym none ∙ e in cc)) (none, refl) refl goes stays
    went (machine.Answers (Some said) entries) (Some reply) may goes (same, stays) =
        stayed (machine.Answers (Some said) entries) (Some reply) entries (λ e. may (let down : reply ≡ reply_is.Down = cc in sym same ∙ down)) (ap Some same, refl) refl goes stays
    went (machine.Adds entry) (Some reply) may goes adds = added entry reply may (one_of entry journal was reply new now adds)
    went machine.Raises (Some reply) may goes raises = raised reply may (one_of_raise journal was reply new now raises)
    went (machine.Answers (Some said) entries) None may goes did = absurd did
    went (machine.Adds entry) None may goes did = absurd did
    went machine.Raises None may goes did = absurd did
