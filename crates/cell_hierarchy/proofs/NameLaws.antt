-- The names of instances are ASCII and never empty.
use Rattle.std.proofs.Common.{◌≡◌, ℕ, zero, suc, ◌+◌, ◌/◌, ◌%◌, ◌<◌, ◌≤◌, pos, Bool, true, false, List, [], ◌∷◌, ◌++◌, length, map, sym, subst, ◌∙◌, arith}
use Rattle.std.specs.Prelude.{cond, nat_lt, ◌==◌}
use Rattle.std.specs.Char.{to_ascii_lowercase}
use Rattle.std.specs.Fmt.{decimal}
use Rattle.std.specs.List.{AllByRecursion}
use Rattle.std.specs.Ordering.{int_eq}
use Rattle.std.specs.Str.{IsAscii}
use Rattle.std.specs.Fmt.{digits, digits_onto, digit_glyph}
use Rattle.std.proofs.lemmas.Str.{IsAscii-append}
use Rattle.std.proofs.lemmas.Str.Ascii.{IsAscii-nil, IsAscii-cons, lowercase_ascii}
use Rattle.gds_library.specs.declared.library.Prop.{Prop}
use Rattle.gds_library.specs.declared.library.Element.{Element}
use Rattle.gds_library.specs.declared.library.Element.TheVariants.{Boundary, Path, Sref, Aref, Text}
use Rattle.gds_library.specs.Writable.{IsPrintable, IsWritableProp, IsWritableElement}
use Rattle.cell_chains.specs.Instances.{Item, HasItem, numbered, reference_name, array_name}
use Rattle.cell_hierarchy.specs.Placed.{path_join}

either : {X : Type 0} (P : X → Type 0) (b : Bool) (x y : X) → P x → P y → P (cond b x y)
either P true x y p q = p
either P false x y p q = q

glyph_ascii : (d : ℕ) → d < 10 → digit_glyph false d < 128
glyph_ascii d lt = either (λ (b : ℕ). b < 128) (nat_lt d 10) (48 + d) (87 + d) (omega (arith, lt)) (omega (arith, lt))

last_ascii : (n : ℕ) (acc : List ℕ) → IsAscii acc → IsAscii (digit_glyph false (n % 10) ∷ acc)
last_ascii n acc h = IsAscii-cons (digit_glyph false (n % 10)) acc (glyph_ascii (n % 10) (omega arith)) h

onto_ascii : (k n : ℕ) (acc : List ℕ) → IsAscii acc → IsAscii (digits_onto k 10 false n acc)
onto_ascii zero n acc h = h
onto_ascii (suc k) n acc h =
    either (λ (l : List ℕ). IsAscii l) (n / 10 == 0) (digit_glyph false (n % 10) ∷ acc) (digits_onto k 10 false (n / 10) (digit_glyph false (n % 10) ∷ acc)) (last_ascii n acc h)
    (onto_ascii k (n / 10) (digit_glyph false (n % 10) ∷ acc) (last_ascii n acc h))

decimal_ascii : (n : ℕ) → IsAscii (decimal n)
unfolding digits
decimal_ascii n = onto_ascii 64 n [] IsAscii-nil

numbered_ascii : (n : ℕ) → IsAscii (numbered n)
numbered_ascii n = IsAscii-cons 35 (decimal n) (omega arith) (decimal_ascii n)

pub array_name_ascii : (n column row : ℕ) → IsAscii (array_name n column row)
array_name_ascii n column row =
    let last : IsAscii (46 ∷ decimal row) = IsAscii-cons 46 (decimal row) (omega arith) (decimal_ascii row) in
    let middle : IsAscii (46 ∷ decimal column) = IsAscii-cons 46 (decimal column) (omega arith) (decimal_ascii column) in
    IsAscii-append (numbered n ++ (46 ∷ decimal column)) (46 ∷ decimal row) (IsAscii-append (numbered n) (46 ∷ decimal column) (numbered_ascii n) middle) last

pub array_name_some : (n column row : ℕ) → array_name n column row ≡ [] → ⊥
array_name_some n column row e = absurd cc

pub printable_ascii : (bytes : List ℕ) → AllByRecursion IsPrintable bytes → IsAscii bytes
printable_ascii [] all = IsAscii-nil
printable_ascii (b ∷ bs) all = let le = all.0.below in IsAscii-cons b bs (omega (arith, le)) (printable_ascii bs all.1)

lower_ascii : (bytes : List ℕ) → AllByRecursion IsPrintable bytes → IsAscii (map to_ascii_lowercase bytes)
lower_ascii [] all = IsAscii-nil
lower_ascii (b ∷ bs) all = let le = all.0.below in IsAscii-cons (to_ascii_lowercase b) (map to_ascii_lowercase bs) (lowercase_ascii b (omega (arith, le))) (lower_ascii bs all.1)

pub reference_name_ascii : (n : ℕ) (props : List Prop) → AllByRecursion IsWritableProp props → IsAscii (reference_name n props)
reference_name_ascii n [] all = numbered_ascii n
reference_name_ascii n (p ∷ ps) all =
    either (λ (l : List ℕ). IsAscii l) (int_eq p.attr (pos 1)) (map to_ascii_lowercase p.value) (reference_name n ps) (lower_ascii p.value all.0.printable) (reference_name_ascii n ps all.1)

some_lower : (bytes : List ℕ) → 1 ≤ length bytes → map to_ascii_lowercase bytes ≡ [] → ⊥
some_lower [] le e = absurd (omega (arith, le))
some_lower (b ∷ bs) le e = absurd cc

pub reference_name_some : (n : ℕ) (props : List Prop) → AllByRecursion IsWritableProp props → reference_name n props ≡ [] → ⊥
reference_name_some n [] all = λ e. absurd cc
reference_name_some n (p ∷ ps) all =
    either (λ (l : List ℕ). l ≡ [] → ⊥) (int_eq p.attr (pos 1)) (map to_ascii_lowercase p.value) (reference_name n ps) (some_lower p.value all.0.some) (reference_name_some n ps all.1)

-- the names of an element's items
pub item_name_some : (n : ℕ) (e : Element) (item : Item) → IsWritableElement e → HasItem n e item → item.name ≡ [] → ⊥
item_name_some n (Boundary layer datatype points props) item w h = absurd h
item_name_some n (Path layer datatype kind width points props) item w h = absurd h
item_name_some n (Sref name place props) item w h = λ e. reference_name_some n props w.props (sym h.named ∙ e)
item_name_some n (Aref name place columns rows across down props) item w h = λ e. array_name_some n h.column h.row (sym h.named ∙ e)
item_name_some n (Text layer texttype at string props) item w h = absurd h

pub item_name_ascii : (n : ℕ) (e : Element) (item : Item) → IsWritableElement e → HasItem n e item → IsAscii item.name
item_name_ascii n (Boundary layer datatype points props) item w h = absurd h
item_name_ascii n (Path layer datatype kind width points props) item w h = absurd h
item_name_ascii n (Sref name place props) item w h = subst IsAscii (sym h.named) (reference_name_ascii n props w.props)
item_name_ascii n (Aref name place columns rows across down props) item w h = subst IsAscii (sym h.named) (array_name_ascii n h.column h.row)
item_name_ascii n (Text layer texttype at string props) item w h = absurd h

pub join_ascii : (path name : List ℕ) → IsAscii path → IsAscii name → IsAscii (path_join path name)
join_ascii [] name p n = n
join_ascii (b ∷ bs) [] p n = p
join_ascii (b ∷ bs) (c ∷ cs) p n = IsAscii-append (b ∷ bs) (47 ∷ c ∷ cs) p (IsAscii-cons 47 (c ∷ cs) (omega arith) n)
