-- Which command words are, by their first word.
use Rattle.std.specs.Prelude.{MatchOption, IfSome, IfNone, IsSomeAnd, if◌then◌else◌, ◌&&◌}
use Rattle.std.specs.Option.{option_map}
use Rattle.std.specs.Str.{bytes_eq}
use Rattle.std.proofs.Common.{◌≡◌, ℕ, Bool, true, false, List, [], ◌∷◌, Option, Some, None, map, codes, refl, sym, ap, ◌∙◌, subst}
use Rattle.std.proofs.lemmas.Slice.Eq.{bytes_eq-Decides}
use Rattle.build_command.specs.declared.words.Making as making
use Rattle.build_command.specs.Words.{IsMakingForm, AreNoMaking, told_making, HasMakingWorkers}
use Rattle.build_command.specs.Words.Making.{build, demo, rom}
use Rattle.openram_cli.specs.declared.command.Command as declared
use Rattle.openram_cli.specs.declared.command.Command.TheVariants as variant
use Rattle.openram_cli.specs.declared.command.Question.{Question}
use Rattle.openram_cli.specs.Inspection.{Inspection, check_form, nets_form, compare_form, devices_form, kit_form, or_else, inspection_of}
use Rattle.openram_cli.specs.CommandWords.{HasWorkers, told_question, IsCommandIn}

-- The words, and what is compared.

pub words_are : {A : Type 0} (f : A → List ℕ) (words : List A) (first : A) (rest : List A) (text word : List ℕ)
    → words ≡ first ∷ rest → text ≡ f first → text ≡ word → map f words ≡ word ∷ map f rest
words_are f words first rest text word are is named = rw (are) (ap (λ (w : List ℕ). w ∷ map f rest) (sym is ∙ named))

pub differs : (a b : List ℕ) → (a ≡ b → ⊥) → bytes_eq a b ≡ false
differs a b unlike = by (bytes_eq a b) refl where
  by : (same : Bool) → bytes_eq a b ≡ same → same ≡ false
  by false is = refl
  by true is = absurd (unlike ((bytes_eq-Decides a b).0 is))

no_form : {A : Type 0} (named counted : Bool) (x y : A) → named ≡ false → ◌≡◌ {A = Option A} (if named && counted then Some x else None) (Some y) → ⊥
no_form false counted x y is e = absurd cc
no_form true counted x y is e = absurd cc

other_form : {A : Type 0} (named counted : Bool) (x : A) → named ≡ false → ◌≡◌ {A = Option A} (if named && counted then Some x else None) None
other_form false counted x is = refl
other_form true counted x is = absurd cc

no_word : {A : Type 0} (named : Bool) (x : A) → named ≡ false → ◌≡◌ {A = Option A} (if named then Some x else None) None
no_word false x is = refl
no_word true x is = absurd cc

three : {A : Type 0} (named printable counted : Bool) (x : A) → named ≡ false → ◌≡◌ {A = Option A} (if named && printable && counted then Some x else None) None
three false printable counted x is = refl
three true printable counted x is = absurd cc

-- Words that begin otherwise build nothing.

pub no_making : (first : List ℕ) (rest : List (List ℕ)) → bytes_eq first (codes "build") ≡ false → bytes_eq first (codes "demo") ≡ false → bytes_eq first (codes "rom") ≡ false
    → AreNoMaking (first ∷ rest)
no_making first [] b d r (build config) form = absurd cc
no_making first (x ∷ []) b d r (build config) form = absurd cc
no_making first (x ∷ (y ∷ [])) b d r (build config) form = no_form (bytes_eq first (codes "build")) _ x config b form
no_making first (x ∷ (y ∷ (z ∷ more))) b d r (build config) form = absurd cc
no_making first [] b d r (demo n) form = let none = form.1 in absurd cc
no_making first (x ∷ []) b d r (demo n) form = let none = form.1 in absurd cc
no_making first (x ∷ (y ∷ [])) b d r (demo n) form = no_form (bytes_eq first (codes "demo")) _ x _ d form.1
no_making first (x ∷ (y ∷ (z ∷ more))) b d r (demo n) form = let none = form.1 in absurd cc
no_making first [] b d r (rom config content) form = absurd cc
no_making first (x ∷ []) b d r (rom config content) form = absurd cc
no_making first (x ∷ (y ∷ [])) b d r (rom config content) form = absurd cc
no_making first (x ∷ (y ∷ (z ∷ []))) b d r (rom config content) form = no_form (bytes_eq first (codes "rom")) _ _ _ r form
no_making first (x ∷ (y ∷ (z ∷ (w ∷ more)))) b d r (rom config content) form = absurd cc

-- They are no other form either.

no_check : (first : List ℕ) (rest : List (List ℕ)) → bytes_eq first (codes "check") ≡ false → check_form (first ∷ rest) ≡ None
no_check first [] other = refl
no_check first (x ∷ []) other = refl
no_check first (x ∷ (y ∷ [])) other = refl
no_check first (x ∷ (y ∷ (z ∷ []))) other = refl
no_check first (x ∷ (y ∷ (z ∷ (w ∷ [])))) other = other_form (bytes_eq first (codes "check")) _ _ other
no_check first (x ∷ (y ∷ (z ∷ (w ∷ (v ∷ more))))) other = refl

no_nets : (first : List ℕ) (rest : List (List ℕ)) → bytes_eq first (codes "nets") ≡ false → nets_form (first ∷ rest) ≡ None
no_nets first [] other = refl
no_nets first (x ∷ []) other = refl
no_nets first (x ∷ (y ∷ [])) other = refl
no_nets first (x ∷ (y ∷ (z ∷ []))) other = no_word (bytes_eq first (codes "nets")) _ other
no_nets first (x ∷ (y ∷ (z ∷ (w ∷ more)))) other = refl

no_compare : (first : List ℕ) (rest : List (List ℕ)) → bytes_eq first (codes "compare") ≡ false → compare_form (first ∷ rest) ≡ None
no_compare first [] other = refl
no_compare first (x ∷ []) other = refl
no_compare first (x ∷ (y ∷ [])) other = refl
no_compare first (x ∷ (y ∷ (z ∷ []))) other = refl
no_compare first (x ∷ (y ∷ (z ∷ (w ∷ [])))) other = no_word (bytes_eq first (codes "compare")) _ other
no_compare first (x ∷ (y ∷ (z ∷ (w ∷ (v ∷ more))))) other = refl

no_devices : (first : List ℕ) (rest : List (List ℕ)) → bytes_eq first (codes "devices") ≡ false → devices_form (first ∷ rest) ≡ None
no_devices first [] other = refl
no_devices first (x ∷ []) other = other_form (bytes_eq first (codes "devices")) _ _ other
no_devices first (x ∷ (y ∷ more)) other = refl

no_kit : (first : List ℕ) (rest : List (List ℕ)) → bytes_eq first (codes "kit") ≡ false → kit_form (first ∷ rest) ≡ None
no_kit first [] other = refl
no_kit first (x ∷ []) other = refl
no_kit first (x ∷ (y ∷ [])) other = three (bytes_eq first (codes "kit")) _ _ _ other
no_kit first (x ∷ (y ∷ (z ∷ more))) other = refl

-- One form that the words may be, and those that they aren't.

none_before : (a b : Option Inspection) → a ≡ None → or_else a b ≡ b
none_before None b is = refl
none_before (Some command) b is = absurd cc

none_after : (a b : Option Inspection) → b ≡ None → or_else a b ≡ a
none_after None b is = is
none_after (Some command) b is = refl

-- words that begin so are this form or none

pub only_check : (rest : List (List ℕ)) → inspection_of (codes "check" ∷ rest) ≡ check_form (codes "check" ∷ rest)
only_check rest =
    none_after (check_form (codes "check" ∷ rest)) _
    (none_before _ _ (no_nets (codes "check") rest refl) ∙ none_before _ _ (no_compare (codes "check") rest refl) ∙ none_before _ _ (no_devices (codes "check") rest refl) ∙ no_kit (codes "check") rest refl)

pub only_nets : (rest : List (List ℕ)) → inspection_of (codes "nets" ∷ rest) ≡ nets_form (codes "nets" ∷ rest)
only_nets rest =
    none_before _ _ (no_check (codes "nets") rest refl)
    ∙ none_after (nets_form (codes "nets" ∷ rest)) _
    (none_before _ _ (no_compare (codes "nets") rest refl) ∙ none_before _ _ (no_devices (codes "nets") rest refl) ∙ no_kit (codes "nets") rest refl)

pub only_compare : (rest : List (List ℕ)) → inspection_of (codes "compare" ∷ rest) ≡ compare_form (codes "compare" ∷ rest)
only_compare rest =
    none_before _ _ (no_check (codes "compare") rest refl) ∙ none_before _ _ (no_nets (codes "compare") rest refl)
    ∙ none_after (compare_form (codes "compare" ∷ rest)) _ (none_before _ _ (no_devices (codes "compare") rest refl) ∙ no_kit (codes "compare") rest refl)

pub only_devices : (rest : List (List ℕ)) → inspection_of (codes "devices" ∷ rest) ≡ devices_form (codes "devices" ∷ rest)
only_devices rest =
    none_before _ _ (no_check (codes "devices") rest refl) ∙ none_before _ _ (no_nets (codes "devices") rest refl) ∙ none_before _ _ (no_compare (codes "devices") rest refl)
    ∙ none_after (devices_form (codes "devices" ∷ rest)) _ (no_kit (codes "devices") rest refl)

pub only_kit : (rest : List (List ℕ)) → inspection_of (codes "kit" ∷ rest) ≡ kit_form (codes "kit" ∷ rest)
only_kit rest =
    none_before _ _ (no_check (codes "kit") rest refl) ∙ none_before _ _ (no_nets (codes "kit") rest refl) ∙ none_before _ _ (no_compare (codes "kit") rest refl)
    ∙ none_before _ _ (no_devices (codes "kit") rest refl)

pub no_question : (first : List ℕ) (rest : List (List ℕ)) → bytes_eq first (codes "check") ≡ false → bytes_eq first (codes "nets") ≡ false → bytes_eq first (codes "compare") ≡ false
    → bytes_eq first (codes "devices") ≡ false → bytes_eq first (codes "kit") ≡ false → inspection_of (first ∷ rest) ≡ None
no_question first rest check nets compare devices kit =
    none_before _ _ (no_check first rest check) ∙ none_before _ _ (no_nets first rest nets) ∙ none_before _ _ (no_compare first rest compare)
    ∙ none_before _ _ (no_devices first rest devices) ∙ no_kit first rest kit

-- What the words ask, of what a form of theirs is read as.

pub made : (words : List (List ℕ)) (read : Option making.Making) (asked : Option declared.Command) → inspection_of words ≡ None
    → IfSome read (λ built. IsMakingForm words (told_making built)) → IfNone read (AreNoMaking words) → IfSome read HasMakingWorkers
    → MatchOption read (asked ≡ None) (λ built. IsSomeAnd asked (λ command. command ≡ variant.Make built)) → IsCommandIn words asked
made words None asked no_form some none workers is = subst (IsCommandIn words) (sym is) (record { no_making = none; no_form = no_form })
made words (Some built) None no_form some none workers is = absurd is
made words (Some built) (Some command) no_form some none workers is =
    subst (λ (c : declared.Command). IsCommandIn words (Some c)) (sym is) (record { form = some; workers = workers })

pub answered : (words : List (List ℕ)) (read : Option Question) (asked : Option declared.Command) → AreNoMaking words
    → option_map told_question read ≡ inspection_of words → IfSome read HasWorkers
    → MatchOption read (asked ≡ None) (λ question. IsSomeAnd asked (λ command. command ≡ variant.Answer question)) → IsCommandIn words asked
answered words None asked no_making form workers is = subst (IsCommandIn words) (sym is) (record { no_making = no_making; no_form = sym form })
answered words (Some question) None no_making form workers is = absurd is
answered words (Some question) (Some command) no_making form workers is =
    subst (λ (c : declared.Command). IsCommandIn words (Some c)) (sym is) (record { no_making = no_making; form = sym form; workers = workers })
