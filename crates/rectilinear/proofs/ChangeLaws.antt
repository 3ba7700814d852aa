-- Changes of a row, one after another.
use Rattle.std.proofs.Common.{◌≡◌, suc, List, [], ◌∷◌, ◌++◌, ℤ, ◌≤ℤ◌, Bool, true, false, not, refl, ap, sym, ◌∙◌, append_assoc, arith}
use Rattle.std.specs.Prelude.{int_le, IsSorted}
use Rattle.std.specs.Ordering.{ordering_then, int_cmp, is_lt}
use Rattle.std.specs.declared.cmp.Ordering.{Ordering}
use native.Mathlib.Numerals.{unary_clauses}
use Rattle.std.proofs.lemmas.Int.{ints}
use Rattle.rectilinear.specs.declared.changes.Change.{Change}
use Rattle.rectilinear.specs.declared.ends.End.{End}
use Rattle.rectilinear.specs.Slabs.{xor}
use Rattle.rectilinear.specs.Rows.{is_odd, is_odd_to, Rise, IsToggled}
use Rattle.rectilinear.specs.Changes.{ClimbFrom, Climb, AreAtHeight, BeginsElsewhere, is_odd_count, is_odd_until, TogglesAll, Passes}

-- by height and then by x
abbrev pub change_order : Change → Change → Ordering
change_order a b = ordering_then (int_cmp a.y b.y) (int_cmp a.x b.x)

not_lower : (a b : Change) → is_lt (change_order b a) ≡ false → a.y ≤ℤ b.y
not_lower a b h = grind (arith, ints, h)

climb_from : (c : Change) (cs : List Change) → IsSorted change_order (c ∷ cs) → ClimbFrom c.y cs
climb_from c [] sorted = tt
climb_from c (d ∷ ds) sorted = (
  not_lower c d (sorted 0 c (omega arith) (omega arith)),
  climb_from d ds (λ k e low high. let next = simp unary_clauses at (sorted (suc k) e (omega arith) (omega (arith, high))) in simp unary_clauses next),
)

pub climb_of : (cs : List Change) → IsSorted change_order cs → Climb cs
climb_of [] sorted = tt
climb_of (c ∷ cs) sorted = climb_from c cs sorted

-- the changes so far, at one height
pub record PassesSoFar (changes : List Change) (height : ℤ) (old : List End) (rest : List Change) (new : List End) : Type 0 where
  pub passed : List Change
  pub parts : changes ≡ passed ++ rest
  pub level : AreAtHeight height passed
  pub toggled : TogglesAll passed old new

pub pass_none : (changes : List Change) (height : ℤ) (ends : List End) → Rise ends → PassesSoFar changes height ends changes ends
pass_none changes height ends rise = record { passed = []; parts = refl; level = tt; toggled = record { rise = rise; odd = refl; same = λ x. refl } }

count_append : (xs : List Change) (c : Change) → is_odd_count (xs ++ c ∷ []) ≡ not (is_odd_count xs)
count_append [] c = refl
count_append (x ∷ xs) c = ap not (count_append xs c)

swap : (a b c : Bool) → xor a (xor b c) ≡ xor b (xor a c)
swap true true c = refl
swap true false c = refl
swap false true c = refl
swap false false c = refl

xor_false : (a : Bool) → xor a false ≡ a
xor_false true = refl
xor_false false = refl

until_append : (xs : List Change) (c : Change) (x : ℤ) → is_odd_until (xs ++ c ∷ []) x ≡ xor (int_le c.x x) (is_odd_until xs x)
until_append [] c x = refl
until_append (y ∷ ys) c x = ap (λ (b : Bool). xor (int_le y.x x) b) (until_append ys c x) ∙ swap (int_le y.x x) (int_le c.x x) (is_odd_until ys x)

level_append : (h : ℤ) (xs : List Change) (c : Change) → AreAtHeight h xs → c.y ≡ h → AreAtHeight h (xs ++ c ∷ [])
level_append h [] c all at = (at, tt)
level_append h (x ∷ xs) c all at = (all.0, level_append h xs c all.1 at)

not_xor : (a b : Bool) → not (xor a b) ≡ xor (not a) b
not_xor true true = refl
not_xor true false = refl
not_xor false b = refl

xor_assoc : (a b c : Bool) → xor a (xor b c) ≡ xor (xor a b) c
xor_assoc true true true = refl
xor_assoc true true false = refl
xor_assoc true false c = refl
xor_assoc false b c = refl

pub pass_more : (changes rest others : List Change) (c : Change) (end : End) (height : ℤ) (old now new : List End) → rest ≡ c ∷ others → c.y ≡ height → end.x ≡ c.x → IsToggled now end new
    → PassesSoFar changes height old rest now → PassesSoFar changes height old others new
pass_more changes rest others c end height old now new e at here t so = record {
  passed = so.passed ++ c ∷ [];
  parts = so.parts ∙ ap (λ (cs : List Change). so.passed ++ cs) e ∙ sym (append_assoc so.passed (c ∷ []) others);
  level = level_append height so.passed c so.level at;
  toggled = record {
    rise = t.rise;
    odd = t.odd ∙ ap not so.toggled.odd ∙ not_xor (is_odd_count so.passed) (is_odd old) ∙ ap (λ (b : Bool). xor b (is_odd old)) (sym (count_append so.passed c));
    same = λ x. t.same x ∙ ap (λ (b : Bool). xor (int_le end.x x) b) (so.toggled.same x) ∙ xor_assoc (int_le end.x x) (is_odd_until so.passed x) (is_odd_to old x)
        ∙ ap (λ (z : ℤ). xor (xor (int_le z x) (is_odd_until so.passed x)) (is_odd_to old x)) here ∙ ap (λ (b : Bool). xor b (is_odd_to old x)) (sym (until_append so.passed c x));
  };
}

pub pass_ends : (changes rest : List Change) (height : ℤ) (old new : List End) → BeginsElsewhere height rest → PassesSoFar changes height old rest new → Passes changes height old rest new
pass_ends changes rest height old new elsewhere so = record { passed = so.passed; parts = so.parts; level = so.level; elsewhere = elsewhere; toggled = so.toggled }
