-- Names that begin with the name of the windows, and those that begin with its number.
use Rattle.std.proofs.Common.{◌≡◌, ◌⊎◌, inl, inr, ℕ, suc, ◌+◌, ◌^◌, ◌<◌, ◌≤◌, true, false, ◌&&◌, List, [], ◌∷◌, ◌++◌, length, map, take, refl, sym, ap, subst, ◌∙◌, arith}
use Rattle.std.specs.Prelude.{Contains, IsTrue, not, nat_eq, nat_le}
use Rattle.std.specs.List.{AllByRecursion, list_all}
use Rattle.std.specs.Char.{to_ascii_lowercase}
use Rattle.std.proofs.lemmas.Bool.{cases_lt}
use Rattle.std.proofs.lemmas.Bool.Decides.{nat_tests}
use Rattle.std.proofs.lemmas.List.{map-append, take_at}
use Rattle.or_geom.specs.Adds.{Adds}
use Rattle.or_geom.proofs.AddsLaws.{adds_none, adds_one, adds_both}
use Rattle.or_geom.proofs.GatheringLaws.{giver, gives_some}
use Rattle.gds_library.specs.declared.library.Structure.{Structure}
use Rattle.netlist.specs.declared.deck.Subckt.{Subckt}
use Rattle.label_binding.specs.LowerCase.{in_lower_case}
use Rattle.sram_plan.specs.Config.{is_name_char, is_output_name}
use Rattle.sram_plan.specs.Keywords.{is_keyword}
use Rattle.sram_plan.proofs.KeywordLaws.{long_is_no_keyword}
use Rattle.leaf_tables.specs.declared.kit.Kit.{Kit}
use Rattle.kit_check.specs.Digits.{IsDigit, number_after, AreDigitsOf, IsNumberedName, IsNumberIn}
use Rattle.kit_check.specs.FreeName.{BeginsWith, IsFreeName, IsStructNumber, IsSubcktNumber, IsWindowName, AreNumbersOf}
use Rattle.kit_check.proofs.DigitLaws.{one_numbered}

lower_below : (c : ℕ) → c < 65 → to_ascii_lowercase c ≡ c
lower_below c h = grind (arith, nat_tests)

lower_capital : (c : ℕ) → 65 ≤ c → c < 91 → to_ascii_lowercase c ≡ c + 32
lower_capital c h k = grind (arith, nat_tests)

lower_above : (c : ℕ) → 91 ≤ c → to_ascii_lowercase c ≡ c
lower_above c h = grind (arith, nat_tests)

lower_digit : (t d : ℕ) → IsDigit d → to_ascii_lowercase t ≡ to_ascii_lowercase d → t ≡ d
lower_digit t d is e =
    let high = is.high in
    let same : to_ascii_lowercase t ≡ d = e ∙ lower_below d (omega (arith, high)) in
    elim (cases_lt t 65) [
      | inl low ↦ sym (lower_below t low) ∙ same
      | inr over ↦ elim (cases_lt t 91) [
        | inl capital ↦ let up : t + 32 ≡ d = sym (lower_capital t over capital) ∙ same in absurd (omega (arith, up, high, over))
        | inr above ↦ sym (lower_above t above) ∙ same
      ]
    ]

is_w : (t : ℕ) → to_ascii_lowercase t ≡ 119 → (t ≡ 119) ⊎ (t ≡ 87)
is_w t e = elim (cases_lt t 65) [
  | inl low ↦ inl (sym (lower_below t low) ∙ e)
  | inr over ↦ elim (cases_lt t 91) [
    | inl capital ↦ let up : t + 32 ≡ 119 = sym (lower_capital t over capital) ∙ e in inr (omega (arith, up))
    | inr above ↦ inl (sym (lower_above t above) ∙ e)
  ]
]

w_is : (t : ℕ) → (t ≡ 119) ⊎ (t ≡ 87) → to_ascii_lowercase t ≡ 119
w_is t w = elim w [ inl e ↦ ap to_ascii_lowercase e | inr e ↦ ap to_ascii_lowercase e ]

same_first : (x y : ℕ) (xs ys : List ℕ) → x ∷ xs ≡ y ∷ ys → x ≡ y
same_first x y xs ys e = cc

same_rest : (x y : ℕ) (xs ys : List ℕ) → x ∷ xs ≡ y ∷ ys → xs ≡ ys
same_rest x y xs ys e = cc

no_first : (x : ℕ) (xs : List ℕ) → ◌≡◌ {A = List ℕ} [] (x ∷ xs) → ⊥
no_first x xs e = cc

digits_begin : (ts ds rest : List ℕ) → AllByRecursion IsDigit ds → map to_ascii_lowercase ts ≡ map to_ascii_lowercase ds ++ rest → (more : List ℕ) × (ts ≡ ds ++ more)
digits_begin ts [] rest all e = (ts, refl)
digits_begin [] (d ∷ ds) rest all e = absurd (no_first (to_ascii_lowercase d) (map to_ascii_lowercase ds ++ rest) e)
digits_begin (t ∷ ts) (d ∷ ds) rest all e =
    let first : t ≡ d = lower_digit t d all.0 (same_first (to_ascii_lowercase t) (to_ascii_lowercase d) (map to_ascii_lowercase ts) (map to_ascii_lowercase ds ++ rest) e) in
    let r = digits_begin ts ds rest all.1 (same_rest (to_ascii_lowercase t) (to_ascii_lowercase d) (map to_ascii_lowercase ts) (map to_ascii_lowercase ds ++ rest) e) in
    (r.0, λ i. first i ∷ r.1 i)

number_begun : (text digits rest : List ℕ) (number : ℕ) → number < 2 ^ 64 → AreDigitsOf number digits → map to_ascii_lowercase text ≡ map to_ascii_lowercase (119 ∷ digits) ++ rest → IsNumberIn text number
number_begun [] digits rest number small are e = absurd (no_first 119 (map to_ascii_lowercase digits ++ rest) e)
number_begun (t ∷ ts) digits rest number small are e =
    let w = is_w t (same_first (to_ascii_lowercase t) 119 (map to_ascii_lowercase ts) (map to_ascii_lowercase digits ++ rest) e) in
    let r = digits_begin ts digits rest are.write.digits_are (same_rest (to_ascii_lowercase t) 119 (map to_ascii_lowercase ts) (map to_ascii_lowercase digits ++ rest) e) in
    record { small = small; begins = record { first = t; digits = digits; rest = r.0; is = ap (λ (l : List ℕ). t ∷ l) r.1; w = w; are = are } }

-- a text begins with the name of a number where it begins with the number
begins_number : (text name : List ℕ) (number : ℕ) → number < 2 ^ 64 → IsNumberedName number name → BeginsWith text name → IsNumberIn text number
begins_number text name number small named b =
    number_begun text named.digits b.rest number small named.are (subst (λ (n : List ℕ). in_lower_case text ≡ in_lower_case n ++ b.rest) named.is b.is)

number_begins : (text : List ℕ) (number : ℕ) → IsNumberIn text number → (name : List ℕ) × IsNumberedName number name × BeginsWith text name
number_begins text number p =
    let b = p.begins in
    let first : to_ascii_lowercase b.first ≡ 119 = w_is b.first b.w in
    let parts : in_lower_case (b.digits ++ b.rest) ≡ in_lower_case b.digits ++ in_lower_case b.rest = map-append to_ascii_lowercase b.digits b.rest in
    (119 ∷ b.digits, record { digits = b.digits; are = b.are; is = refl }, record { rest = in_lower_case b.rest; is = ap in_lower_case b.is ∙ (λ i. first i ∷ parts i) })

-- such a name is one that a macro may have

digit_char : (d : ℕ) → IsDigit d → is_name_char d ≡ true
digit_char d is = let low = is.low in let high = is.high in grind (arith, nat_tests)

digit_chars : (ds : List ℕ) → AllByRecursion IsDigit ds → list_all is_name_char ds ≡ true
digit_chars [] all = refl
digit_chars (d ∷ ds) all = λ i. digit_char d all.0 i && digit_chars ds all.1 i

may_be_output : (number : ℕ) (name : List ℕ) → IsNumberedName number name → IsTrue (is_output_name name)
may_be_output number name named =
    let sized = named.are.sized in
    let long : length (119 ∷ named.digits) ≡ 24 = ap suc sized in
    let short : nat_le (length (119 ∷ named.digits)) 24 ≡ true = ap (λ (n : ℕ). nat_le n 24) long in
    let all : list_all is_name_char (119 ∷ named.digits) ≡ true = digit_chars named.digits named.are.write.digits_are in
    let kept : is_keyword (119 ∷ named.digits) ≡ false = long_is_no_keyword (119 ∷ named.digits) (omega (arith, long)) in
    let is : is_output_name (119 ∷ named.digits) ≡ true = λ i. (short i && (true && all i)) && not (kept i) in
    subst (λ (n : List ℕ). is_output_name n ≡ true) (sym named.is) is

-- the numbers with which names begin

no_more : (name : List ℕ) (m n : ℕ) (p : IsNumberIn name m) (q : IsNumberIn name n) → m ≡ n
no_more name m n p q =
    let a = p.begins in
    let b = q.begins in
    let rest : a.digits ++ a.rest ≡ b.digits ++ b.rest = same_rest a.first b.first (a.digits ++ a.rest) (b.digits ++ b.rest) (sym a.is ∙ b.is) in
    let digits : a.digits ≡ b.digits = sym (take_at a.digits a.rest 23 a.are.sized) ∙ (ap (λ (l : List ℕ). take 23 l) rest ∙ take_at b.digits b.rest 23 b.are.sized) in
    sym a.are.write.is ∙ (ap (λ (l : List ℕ). number_after 0 l) digits ∙ b.are.write.is)

pub adds_no_number : (text name out : List ℕ) → text ≡ name → ((n : ℕ) → IsNumberIn text n → ⊥) → Adds out out (IsNumberIn name)
adds_no_number text name out same none = adds_none out (IsNumberIn name) (λ n p. none n (subst (λ (l : List ℕ). IsNumberIn l n) (sym same) p))

pub adds_number : (text name out new : List ℕ) (n : ℕ) → text ≡ name → IsNumberIn text n → new ≡ out ++ n ∷ [] → Adds out new (IsNumberIn name)
adds_number text name out new n same is more =
    let p = subst (λ (l : List ℕ). IsNumberIn l n) same is in
    adds_one out new n (IsNumberIn name) more p (λ m q. no_more name m n q p)

pub same_u64 : (m n : ℕ) → IsTrue (nat_eq m n) → m ≡ n
same_u64 m n e = grind (arith, nat_tests)

pub numbers_are : (kit : Kit) (structs : List Structure) (subckts : List Subckt) (old a b list : List ℕ) → structs ≡ kit.lib.structs → subckts ≡ kit.deck.subckts → old ≡ [] → Adds old a (IsStructNumber structs) → Adds a b (IsSubcktNumber subckts)
    → ((n : ℕ) → Contains b n → Contains list n) → ((n : ℕ) → Contains list n → Contains b n) → AreNumbersOf kit list
numbers_are kit structs subckts old a b list of_structs of_subckts empty p q keeps adds_no =
    let both = adds_both old a b (IsStructNumber kit.lib.structs) (IsSubcktNumber kit.deck.subckts)
    (subst (λ (l : List Structure). Adds old a (IsStructNumber l)) of_structs p) (subst (λ (l : List Subckt). Adds a b (IsSubcktNumber l)) of_subckts q) in
    let is : b ≡ both.added = subst (λ (l : List ℕ). b ≡ l ++ both.added) empty both.is in
    λ number. (
      (λ h. both.only number (subst (λ (l : List ℕ). Contains l number) is (adds_no number h))),
      (λ h. keeps number (subst (λ (l : List ℕ). Contains l number) (sym is) (both.each number h))),
    )

-- the least number with which no name begins

pub window_named : (kit : Kit) (numbers : List ℕ) (least : ℕ) (name : List ℕ) → least < 2 ^ 64 → AreNumbersOf kit numbers → (Contains numbers least → ⊥) → ((n : ℕ) → n < least → Contains numbers n) → IsNumberedName least name → IsWindowName kit name
window_named kit numbers least name small are free below named = record {
  number = least;
  named = named;
  free = record {
    output = may_be_output least name named;
    structs = λ s listed b. free ((are least).1 (inl (gives_some (λ (t : Structure). IsNumberIn t.name) kit.lib.structs least s listed (begins_number s.name name least small named b))));
    subckts = λ s listed b. free ((are least).1 (inr (gives_some (λ (t : Subckt). IsNumberIn t.name) kit.deck.subckts least s listed (begins_number s.name name least small named b))));
  };
  least = λ less lt. taken less ((are less).0 (below less lt));
}
  where
    taken : (less : ℕ) → (IsStructNumber kit.lib.structs less ⊎ IsSubcktNumber kit.deck.subckts less) → (other : List ℕ) × IsNumberedName less other × (IsFreeName kit other → ⊥)
    taken less (inl h) =
        let g = giver (λ (t : Structure). IsNumberIn t.name) kit.lib.structs less h in
        let n = number_begins g.0.name less g.2 in
        (n.0, n.1, λ is. is.structs g.0 g.1 n.2)
    taken less (inr h) =
        let g = giver (λ (t : Subckt). IsNumberIn t.name) kit.deck.subckts less h in
        let n = number_begins g.0.name less g.2 in
        (n.0, n.1, λ is. is.subckts g.0 g.1 n.2)

-- a kit has one name of the windows

not_less : (kit : Kit) (a b : List ℕ) (p : IsWindowName kit a) (q : IsWindowName kit b) → p.number < q.number → ⊥
not_less kit a b p q lt =
    let l = q.least p.number lt in
    l.2 (subst (IsFreeName kit) (one_numbered p.number a l.0 p.named l.1) p.free)

pub one_window_name : (kit : Kit) (a b : List ℕ) → IsWindowName kit a → IsWindowName kit b → a ≡ b
one_window_name kit a b p q = elim (cases_lt p.number q.number) [
  | inl less ↦ absurd (not_less kit a b p q less)
  | inr ge ↦ elim (cases_lt q.number p.number) [
    | inl more ↦ absurd (not_less kit b a q p more)
    | inr le ↦ let same : p.number ≡ q.number = omega (arith, ge, le) in one_numbered q.number a b (subst (λ (n : ℕ). IsNumberedName n a) same p.named) q.named
  ]
]
