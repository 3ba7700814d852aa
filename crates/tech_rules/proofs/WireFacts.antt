-- What holds of the wires that are read.
use Rattle.std.proofs.Common.{◌≡◌, ◌&&◌, ℕ, ℤ, pos, ◌-ℤ◌, ◌<ℤ◌, Bool, true, false, not, cond, Ordering, Less, Equal, Greater, List, [], length, Option, Some, None, Result, Ok, IfSome, subst, arith, codes, ◌∙◌, int_rem}
use Rattle.std.proofs.lemmas.Bool.{and_parts}
use Rattle.std.specs.Cmp.{int_ranks}
use Rattle.std.specs.Ordering.{int_cmp, int_eq, is_lt, is_eq, MatchOrdering}
use Rattle.tech_rules.specs.declared.fault.TechFault.{TechFault}
use Rattle.toml_keys.specs.Fault.{◌>>=◌}
use Rattle.toml_keys.specs.Keys.{Section, has_key, IsInRange, section_under, texts_under, counted}
use Rattle.toml_keys.proofs.StepLaws.{steps_of, met_by, counted-IsCounted, number_under-IsInRange}
use Rattle.tech_rules.specs.declared.tech.Layer.{Layer}
use Rattle.tech_rules.specs.declared.tech.Wire.{Wire}
use Rattle.tech_rules.specs.Facts.{IsCentred, IsWire}
use Rattle.tech_rules.specs.Layers.{layer_indices_of}
use Rattle.tech_rules.specs.Names.{are_different, share_a_name}
use Rattle.tech_rules.specs.Wires.{size_under, is_centred, cut_under, new_names, wire_in, wire_under}
use Rattle.tech_rules.proofs.IndexFacts.{indices_named, indices_are, indices_as_many, differ, apart}
use Rattle.tech_rules.proofs.LayerFacts.{true_and_not}

below_if : (x y : ℤ) (o : Ordering) → MatchOrdering o (x <ℤ y) (x ≡ y) (y <ℤ x) → is_lt o ≡ true → x <ℤ y
below_if x y Less below less = below
below_if x y Equal same less = cc
below_if x y Greater above less = cc

equal_if : (x y : ℤ) (o : Ordering) → MatchOrdering o (x <ℤ y) (x ≡ y) (y <ℤ x) → is_eq o ≡ true → x ≡ y
equal_if x y Less below equal = cc
equal_if x y Equal same equal = same
equal_if x y Greater above equal = cc

centred_facts : (width cut : ℤ) → is_centred width cut ≡ true → IsCentred width cut
centred_facts width cut met =
    let parts = and_parts (is_lt (int_cmp cut width)) (int_eq (int_rem (width -ℤ cut) (pos 2)) (pos 0)) met in
    record {
      narrow = below_if cut width (int_cmp cut width) (int_ranks cut width) parts.0;
      even = equal_if (int_rem (width -ℤ cut) (pos 2)) (pos 0) (int_cmp (int_rem (width -ℤ cut) (pos 2)) (pos 0)) (int_ranks (int_rem (width -ℤ cut) (pos 2)) (pos 0)) parts.1;
    }

size_facts : (s : Section TechFault) (key : List ℕ) (z : ℤ) → size_under s key ≡ Ok z → IsInRange (pos 1) (pos 65536) z
size_facts s key z made = number_under-IsInRange (pos 1) (pos 65536) s key z made

record IsCut (width cut : ℤ) : Type 0 where
  size : IsInRange (pos 1) (pos 65536) cut
  centred : IsCentred width cut

cut_facts : (width : ℤ) (s : Section TechFault) (cut : ℤ) → cut_under width s ≡ Ok cut → IsCut width cut
cut_facts width s cut made =
    let t = steps_of (size_under s (codes "cut")) _ cut made in
    let m = met_by (is_centred width t.x) t.x cut _ t.next in
    subst (IsCut width) m.same (record { size = size_facts s (codes "cut") t.x t.first; centred = centred_facts width t.x m.holds })

-- so many different names, none of which is taken
record AreNew (count : ℕ) (taken names : List (List ℕ)) : Type 0 where
  as_many : length names ≡ count
  different : are_different names ≡ true
  free : share_a_name names taken ≡ false

names_facts : (count : ℕ) (taken : List (List ℕ)) (s : Section TechFault) (key : List ℕ) (names : List (List ℕ))
    → new_names count taken s key ≡ Ok names → AreNew count taken names
names_facts count taken s key names made =
    let t = steps_of (texts_under s key >>= counted count count s key) _ names made in
    let u = steps_of (texts_under s key) (counted count count s key) t.x t.first in
    let counts = counted-IsCounted count count s key u.x t.x u.next in
    let m = met_by (are_different t.x && not (share_a_name t.x taken)) t.x names _ t.next in
    let parts = true_and_not (are_different t.x) (share_a_name t.x taken) m.holds in
    subst (AreNew count taken) m.same (record { as_many = omega (arith, counts.some, counts.few); different = parts.0; free = parts.1 })

wire_facts : (layers : List Layer) (s : Section TechFault) (wire : Wire) → wire_in layers s ≡ Ok wire
    → IsWire layers wire
unfolding wire_in
wire_facts layers s wire made =
    let a = steps_of (size_under s (codes "width")) _ wire made in
    let b = steps_of (size_under s (codes "space")) _ wire a.next in
    let c = steps_of (cut_under a.x s) _ wire b.next in
    let d = steps_of (new_names 4 [] s (codes "metals")) _ wire c.next in
    let e = steps_of (layer_indices_of layers s (codes "metals") d.x) _ wire d.next in
    let f = steps_of (new_names 3 d.x s (codes "cuts")) _ wire e.next in
    let g = steps_of (layer_indices_of layers s (codes "cuts") f.x) _ wire f.next in
    let cut = cut_facts a.x s c.x c.first in
    let metal_names = names_facts 4 [] s (codes "metals") d.x d.first in
    let cut_names = names_facts 3 d.x s (codes "cuts") f.x f.first in
    let metals = indices_named layers s (codes "metals") d.x e.x e.first in
    let cuts = indices_named layers s (codes "cuts") f.x g.x g.first in
    let same : record { width = a.x; space = b.x; cut = c.x; metals = e.x; cuts = g.x } ≡ wire = cc in
    subst (IsWire layers) same (record {
      sizes = record { width = size_facts s (codes "width") a.x a.first; space = size_facts s (codes "space") b.x b.first; cut = cut.size; centred = cut.centred };
      four = indices_as_many layers d.x e.x metals ∙ metal_names.as_many;
      three = indices_as_many layers f.x g.x cuts ∙ cut_names.as_many;
      metals = indices_are layers d.x e.x metals;
      cuts = indices_are layers f.x g.x cuts;
      metals_differ = differ layers d.x e.x metals metal_names.different;
      cuts_differ = differ layers f.x g.x cuts cut_names.different;
      apart = apart layers f.x d.x g.x e.x cuts metals cut_names.free;
    })

either_wire : (layers : List Layer) (found : Bool) (given : Result (Option Wire) TechFault) (wire : Option Wire)
    → (given ≡ Ok wire → IfSome wire (IsWire layers)) → cond found given (Ok None) ≡ Ok wire
    → IfSome wire (IsWire layers)
either_wire layers true given wire good_if made = good_if made
either_wire layers false given wire good_if made = let same : None ≡ wire = cc in subst (λ (w : Option Wire). IfSome w (IsWire layers)) same tt

given_wire : (layers : List Layer) (s : Section TechFault) (wire : Option Wire)
    → (section_under s (codes "wire") >>= λ w. wire_in layers w >>= λ x. Ok (Some x)) ≡ Ok wire
    → IfSome wire (IsWire layers)
given_wire layers s wire made =
    let a = steps_of (section_under s (codes "wire")) _ wire made in
    let b = steps_of (wire_in layers a.x) _ wire a.next in
    let same : Some b.x ≡ wire = cc in
    subst (λ (w : Option Wire). IfSome w (IsWire layers)) same (wire_facts layers a.x b.x b.first)

-- what holds of the wires of a technology
pub wire_holds : (layers : List Layer) (s : Section TechFault) (wire : Option Wire) → wire_under layers s ≡ Ok wire
    → IfSome wire (IsWire layers)
wire_holds layers s wire made = either_wire layers (has_key s (codes "wire")) _ wire (given_wire layers s wire) made
