-- A subcircuit has one list of flat rows.
use Rattle.std.proofs.Common.{◌≡◌, ℕ, ◌<◌, List, length, Option, None, Some, refl, sym, ap, subst, ◌∙◌, arith}
use Rattle.std.specs.Prelude.{slice_get}
use Rattle.std.proofs.lemmas.List.{get_or-map, length-map}
use Rattle.std.proofs.lemmas.Option.{slice_get_within, get_or_from_slice_get}
use Rattle.or_geom.proofs.NumberingLaws.{one_by, Follows, one_number}
use Rattle.netlist.specs.declared.rows.RowPin.{RowPin}
use Rattle.spice_netlist.specs.declared.resolved.ResolvedSubckt.{ResolvedSubckt}
use Rattle.spice_netlist.specs.Faults.{AreRows}
use Rattle.spice_text.specs.Words.{lower}
use Rattle.spice_netlist.specs.Names.{index_of}
use Rattle.spice_netlist.specs.Numbers.{label_of_row, label_of_named, number_at, AreNumberedRows}
use Rattle.spice_netlist.specs.OneAnswer.{RowsAreUnique}
use Rattle.spice_netlist.specs.Pins.{NamedPin, named_rows}
use Rattle.spice_netlist.specs.Resolved.{names_of, resolved_subckts}

-- the row at the index has the number
abbrev HasNumber : List NamedPin → List RowPin → ℕ → ℕ → Type 0
HasNumber named rows index number = (index < length named) × (number_at rows index ≡ number)

follows : (named : List NamedPin) (a b : List RowPin) → AreNumberedRows named a → AreNumberedRows named b → Follows (HasNumber named a) (HasNumber named b)
follows named a b x y = record {
  first = λ index number smaller has lt.
      let h = x.first index smaller has.0 (subst (λ (n : ℕ). smaller < n) (sym has.1) lt) in
      let before = h.before in
      let inside = has.0 in
      (h.earlier, before, (omega (arith, before, inside), h.is));
  there = λ index number has. (number_at b index, (has.0, refl));
  one = λ j k number m n has_j has_k other_j other_k.
      sym other_j.1 ∙ ((y.one j k has_j.0 has_k.0).1 ((x.one j k has_j.0 has_k.0).0 (has_j.1 ∙ sym has_k.1)) ∙ other_k.1);
}

has_number : (named : List NamedPin) (rows : List RowPin) (k : ℕ) (r : RowPin) → AreNumberedRows named rows → slice_get rows k ≡ Some r → HasNumber named rows k r.net
has_number named rows k r numbered here =
    let lt = slice_get_within rows k r here in
    let long : length rows ≡ length named = sym (length-map rows label_of_row) ∙ (ap length numbered.labels ∙ length-map named label_of_named) in
    (omega (arith, lt, long), get_or-map (λ (s : RowPin). s.net) rows k r 0 lt ∙ ap (λ (s : RowPin). s.net) (get_or_from_slice_get rows k r r here))

-- named rows have one list of rows with numbers
one_rows : (named : List NamedPin) (a b : List RowPin) → AreNumberedRows named a → AreNumberedRows named b → a ≡ b
one_rows named a b x y = one_by label_of_row a b (x.labels ∙ sym y.labels) (λ k r s at_r at_s e.
    let net : r.net ≡ s.net =
    one_number (HasNumber named a) (HasNumber named b) (follows named a b x y) (follows named b a y x) k r.net s.net (has_number named a k r x at_r) (has_number named b k s y at_s) in
    λ i. record { path = (e i).path; leaf = (e i).leaf; pin = (e i).pin; net = net i })

one_at_top : (subckts : List ResolvedSubckt) (top : Option ℕ) (a b : List RowPin) → AreRows subckts top a → AreRows subckts top b → a ≡ b
one_at_top subckts None a b x y = absurd x
one_at_top subckts (Some index) a b x y = one_rows (named_rows subckts index) a b x.numbered y.numbered

pub one_flat_rows : RowsAreUnique
one_flat_rows subckts top leaves a b x y = one_at_top (resolved_subckts subckts (lower top) leaves) (index_of (names_of subckts) (lower top)) a b x y
