-- Paths: what stands before the last slash, and text behind text.
use Rattle.std.proofs.Common.{◌≡◌, ◌≢◌, ℕ, suc, ◌<◌, List, [], ◌∷◌, length, ◌++◌, get_or, refl, sym, ap, subst, ◌∙◌, arith, Some, None, codes}
use Rattle.std.specs.Str.{IsUtf8, NoCharPasses}
use Rattle.std.proofs.lemmas.Str.{IsUtf8-append}
use Rattle.std.specs.Str.Pattern.{RFindsChar, SplitsAroundMatch}
use Rattle.std.proofs.Math.Dec.{eqb}
use Rattle.std.proofs.lemmas.Bool.{ne_eqb, cond-false}
use Rattle.std.proofs.lemmas.List.{take-append-drop}
use Rattle.std.proofs.lemmas.Str.Pattern.{NoCharPasses-char, drop_at_char}
use Rattle.system_ports.specs.Folders.{before_slash, before_with, folder_before, folder_of}

-- no byte of this path is a slash
abbrev NoSlash : List ℕ → Type 0
NoSlash path = (i : ℕ) → i < length path → get_or path i 0 ≢ 47

none_before : (path : List ℕ) → NoSlash path → before_slash path ≡ None
none_before [] none = refl
none_before (b ∷ path) none =
    ap (before_with b) (none_before path (λ i h. none (suc i) (omega (arith, h)))) ∙ cond-false _ _ _ (ne_eqb b 47 (none 0 (omega arith)))

last_before : (front back : List ℕ) → NoSlash back → before_slash (front ++ 47 ∷ back) ≡ Some front
last_before [] back none = ap (before_with 47) (none_before back none)
last_before (b ∷ front) back none = ap (before_with b) (last_before front back none)

-- what a search for the last slash says
no_slash_in : (path : List ℕ) → RFindsChar 47 path None → before_slash path ≡ None
no_slash_in path found = none_before path (λ i h. NoCharPasses-char 47 path i found (omega arith) h)

last_slash_at : (path front back : List ℕ) → SplitsAroundMatch (RFindsChar 47) path front back → before_slash path ≡ Some front
last_slash_at path front back split =
    let whole : path ≡ front ++ 47 ∷ back =
    sym (take-append-drop split.0 path) ∙ (λ k. sym split.3 k ++ (drop_at_char 47 path split.0 split.1 split.2.1 (omega arith) ∙ ap (λ l. 47 ∷ l) (sym split.4)) k) in
    let none : NoSlash back = λ i h. NoCharPasses-char 47 back i (subst (NoCharPasses (λ d. eqb d 47)) (sym split.4) split.2.0) (omega arith) h in
    ap before_slash whole ∙ last_before front back none

pub no_folder : (path : List ℕ) → RFindsChar 47 path None → codes "." ≡ folder_of path
no_folder path found = sym (ap folder_before (no_slash_in path found))

front_is : (front : List ℕ) → 0 < length front → folder_before (Some front) ≡ front
front_is [] some = absurd (omega arith)
front_is (b ∷ front) some = refl

pub inner_folder : (path front back : List ℕ) → SplitsAroundMatch (RFindsChar 47) path front back → 0 < length front → front ≡ folder_of path
inner_folder path front back split some = sym (ap folder_before (last_slash_at path front back split) ∙ front_is front some)

no_front : (front : List ℕ) → length front ≡ 0 → folder_before (Some front) ≡ codes "/"
no_front [] none = refl
no_front (b ∷ front) none = absurd (omega (arith, none))

pub root_folder : (path front back : List ℕ) → SplitsAroundMatch (RFindsChar 47) path front back → length front ≡ 0 → codes "/" ≡ folder_of path
root_folder path front back split none = sym (ap folder_before (last_slash_at path front back split) ∙ no_front front none)

-- text behind text is text
pub text_behind : (front back whole : List ℕ) → IsUtf8 front → IsUtf8 back → whole ≡ front ++ back → IsUtf8 whole
text_behind front back whole first last is = subst IsUtf8 (sym is) (IsUtf8-append front back first last)
