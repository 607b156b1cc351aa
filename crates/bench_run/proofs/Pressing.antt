-- The keys of a text, up to some byte and behind it.
use Rattle.std.proofs.Common.{◌≡◌, ℕ, ◌+◌, ◌≤◌, ◌<◌, Bool, true, false, ◌&&◌, List, [], ◌∷◌, ◌++◌, length, map, take, drop, get_or, Result, Ok, Err, refl, sym, ap, ◌∙◌, subst, cond, add-one}
use Rattle.std.proofs.lemmas.List.{map-append, take_more, take-append-drop, take_all}
use Rattle.std.proofs.Math.Seq.{drop-cons}
use Rattle.paygo_spec.specs.declared.Event.TheVariants.{Key}
use Rattle.paygo_spec.specs.Flash.{FlashView}
use Rattle.paygo_spec.specs.Streams.{SinkView}
use Rattle.paygo_spec.specs.Words.{is_space}
use Rattle.run_spec.specs.DeviceLines.{is_key_text, are_key_text, presses}
use Rattle.run_spec.specs.Run.{Step, Act}
use Rattle.device_core.specs.declared.device.Device.{Device}
use Rattle.paygo_ports.specs.declared.sink.WriteFault.{WriteFault}
use Rattle.device_core.specs.Memory.{Holds}
use Rattle.bench_run.specs.Bench.{desk, DeviceWorks, DeviceDid}
use Rattle.paygo_spec.specs.Faults.{Counted}
use Rattle.paygo_spec.proofs.Plans.{plan_stays, plan_then}
use Rattle.bench_run.proofs.Answering.{nothing}
use Rattle.bench_run.proofs.Runs.{works_more, works_front}

-- the keys of two texts
presses-append : (xs ys : List ℕ) → presses (xs ++ ys) ≡ presses xs ++ presses ys
presses-append [] ys = refl
presses-append (x ∷ xs) ys =
    elim (is_space x) as (λ b. cond b (presses (xs ++ ys)) (Key x ∷ presses (xs ++ ys)) ≡ cond b (presses xs) (Key x ∷ presses xs) ++ presses ys) [
      | true ↦ presses-append xs ys
      | false ↦ ap (λ keys. Key x ∷ keys) (presses-append xs ys)
    ]

-- the steps of the keys of a text
abbrev pub pressed : List ℕ → List Step
pressed text = map Act (presses text)

pressed-append : (xs ys : List ℕ) → pressed (xs ++ ys) ≡ pressed xs ++ pressed ys
pressed-append xs ys = ap (map Act) (presses-append xs ys) ∙ map-append Act (presses xs) (presses ys)

pressed_more : (text : List ℕ) (i : ℕ) → i < length text → pressed (take (i + 1) text) ≡ pressed (take i text) ++ pressed (get_or text i 0 ∷ [])
pressed_more text i within = ap pressed (take_more text i 0 within) ∙ pressed-append (take i text) (get_or text i 0 ∷ [])

pressed_split : (text : List ℕ) (i : ℕ) → pressed text ≡ pressed (take i text) ++ pressed (drop i text)
pressed_split text i = ap pressed (sym (take-append-drop i text)) ∙ pressed-append (take i text) (drop i text)

both : (a b : Bool) → (a && b) ≡ true → b ≡ true
both true b h = h
both false b h = cc

-- behind a key the text goes on with keys
pub keys_behind : (text : List ℕ) (i : ℕ) → i < length text → are_key_text (drop i text) ≡ true → are_key_text (drop (i + 1) text) ≡ true
keys_behind text i within keys =
    let next : drop i text ≡ get_or text i 0 ∷ drop (i + 1) text = drop-cons text i 0 within ∙ ap (λ n. get_or text i 0 ∷ drop n text) (sym (add-one i)) in
    both (is_key_text (get_or text i 0)) (are_key_text (drop (i + 1) text)) (ap are_key_text (sym next) ∙ keys)

-- no key is pressed yet
pub none_pressed : (next : List ℕ → ℕ → ℕ) (device : Device) (flash : FlashView) (sink : SinkView) → Holds device flash → DeviceDid next [] (Ok tt) device flash sink device flash sink
none_pressed next device flash sink holds = record {
  holds = holds;
  plan = plan_stays flash flash refl refl;
  cause = refl;
  works = λ mode keeper uses. nothing next mode (desk device keeper flash sink);
}

module _ (next : List ℕ → ℕ → ℕ) (text : List ℕ) (i : ℕ) (first old new : Device) (begun was now : FlashView) (empty sink after : SinkView) (within : i < length text)
    (so_far : DeviceDid next (pressed (take i text)) (Ok tt) first begun empty old was sink) where
  -- what became of the keys up to one more
  further : (result : Result (Unit {0}) WriteFault) → DeviceDid next (pressed (get_or text i 0 ∷ [])) result old was sink new now after
      → DeviceDid next (pressed (take (i + 1) text)) result first begun empty new now after
  further result did = record {
    holds = did.holds;
    plan = plan_then begun was now so_far.plan did.plan;
    cause = subst (λ (n : ℕ). Counted result n after.faults) so_far.cause did.cause;
    works = subst (λ (steps : List Step). DeviceWorks next steps result first begun empty new now after) (sym (pressed_more text i within))
        (works_more next (pressed (take i text)) (pressed (get_or text i 0 ∷ [])) result first old new begun was now empty sink after so_far.works did.works);
  }

  -- one more key is done
  pub one_more : DeviceDid next (pressed (get_or text i 0 ∷ [])) (Ok tt) old was sink new now after → DeviceDid next (pressed (take (i + 1) text)) (Ok tt) first begun empty new now after
  one_more did = further (Ok tt) did

  -- the sink failed at the answer to one more key, and the keys behind it aren't pressed
  pub stopped_at : (fault : WriteFault) → DeviceDid next (pressed (get_or text i 0 ∷ [])) (Err fault) old was sink new now after → DeviceDid next (pressed text) (Err fault) first begun empty new now after
  stopped_at fault did =
      let up_to = further (Err fault) did in
      record {
        holds = up_to.holds;
        plan = up_to.plan;
        cause = up_to.cause;
        works = subst (λ (steps : List Step). DeviceWorks next steps (Err fault) first begun empty new now after) (sym (pressed_split text (i + 1)))
            (works_front next (pressed (take (i + 1) text)) (pressed (drop (i + 1) text)) fault first new begun now empty after up_to.works);
      }

-- all keys are done
pub all_pressed : (next : List ℕ → ℕ → ℕ) (text : List ℕ) (i : ℕ) (first old : Device) (begun was : FlashView) (empty sink : SinkView) → length text ≤ i
    → DeviceDid next (pressed (take i text)) (Ok tt) first begun empty old was sink → DeviceDid next (pressed text) (Ok tt) first begun empty old was sink
all_pressed next text i first old begun was empty sink all did =
    subst (λ (keys : List ℕ). DeviceDid next (pressed keys) (Ok tt) first begun empty old was sink) (take_all i text all) did
