-- The tables of the ports, one subcircuit more, and what they say of the walk.
use Rattle.std.proofs.Common.{◌≡◌, ℕ, ◌+◌, ◌<◌, min, inl, inr, List, [], ◌∷◌, ◌++◌, length, map, get_or, Option, None, Some, sym, ap, subst, ◌∙◌, arith}
use Rattle.std.proofs.lemmas.Bool.{cases_lt}
use Rattle.std.proofs.lemmas.List.{map-append, length-map, length-append, get_or_append_left}
use Rattle.reference_graph.specs.Reaches.{Reaches}
use Rattle.spice_netlist.specs.Limits.{most_pins}
use Rattle.spice_netlist.specs.declared.resolved.ResolvedSubckt.{ResolvedSubckt}
use Rattle.spice_netlist.specs.declared.name_index.NameIndex.{NameIndex}
use Rattle.spice_netlist.specs.declared.size.Size.{Size}
use Rattle.spice_netlist.specs.Resolved.{ports_at, graph}
use Rattle.spice_netlist.specs.Walk.{walk_at}
use Rattle.spice_netlist.specs.Pins.{pins_of}
use Rattle.spice_netlist.specs.Sizes.{pins_at}
use Rattle.spice_netlist.specs.Descent.{IsTableBy, AreTablesBy, ArePortTables, AreSubcktSizes}
use Rattle.spice_netlist.proofs.NumberLaws.{get_or_push}

module _ (subckts : List ResolvedSubckt) (b : ResolvedSubckt) where
  ports_old : (index : ℕ) → index < length subckts → ports_at (subckts ++ b ∷ []) index ≡ ports_at subckts index
  ports_old index lt =
      ap (λ (l : List (List (List ℕ))). get_or l index []) (map-append (λ (x : ResolvedSubckt). x.ports) subckts (b ∷ []))
      ∙ get_or_append_left (map (λ (x : ResolvedSubckt). x.ports) subckts) (b.ports ∷ []) [] index (let long = length-map subckts (λ (x : ResolvedSubckt). x.ports) in omega (arith, long))

  ports_new : ports_at (subckts ++ b ∷ []) (length subckts) ≡ b.ports
  ports_new =
      ap (λ (l : List (List (List ℕ))). get_or l (length subckts) []) (map-append (λ (x : ResolvedSubckt). x.ports) subckts (b ∷ []))
      ∙ subst (λ (n : ℕ). get_or (map (λ (x : ResolvedSubckt). x.ports) subckts ++ b.ports ∷ []) n [] ≡ b.ports) (length-map subckts (λ (x : ResolvedSubckt). x.ports)) (get_or_push (map (λ (x : ResolvedSubckt). x.ports) subckts) b.ports [])

pub tables_more : (subckts : List ResolvedSubckt) (b : ResolvedSubckt) (sizes : List Size) (tables : List (Option NameIndex)) (t : Option NameIndex) → AreTablesBy subckts sizes tables → IsTableBy (pins_at sizes (length subckts)) b.ports t → AreTablesBy (subckts ++ b ∷ []) sizes (tables ++ t ∷ [])
tables_more subckts b sizes tables t old new =
    let resolved_long = length-append subckts (b ∷ []) in
    let tables_long = length-append tables (t ∷ []) in
    record {
      sized = omega (arith, resolved_long, tables_long, old.sized);
      each = λ index other lt. elim (cases_lt index (length subckts)) [
        | inl before ↦
            let same : get_or (tables ++ t ∷ []) index other ≡ get_or tables index other = get_or_append_left tables (t ∷ []) other index (omega (arith, old.sized)) in
            subst (IsTableBy (pins_at sizes index) (ports_at (subckts ++ b ∷ []) index)) (sym same)
            (subst (λ (ports : List (List ℕ)). IsTableBy (pins_at sizes index) ports (get_or tables index other)) (sym (ports_old subckts b index before)) (old.each index other before))
        | inr last ↦
            let here : length subckts ≡ index = omega (arith, resolved_long) in
            let same : get_or (tables ++ t ∷ []) (length subckts) other ≡ t = subst (λ (i : ℕ). get_or (tables ++ t ∷ []) i other ≡ t) old.sized (get_or_push tables t other) in
            subst (λ (i : ℕ). IsTableBy (pins_at sizes i) (ports_at (subckts ++ b ∷ []) i) (get_or (tables ++ t ∷ []) i other)) here
            (subst (IsTableBy (pins_at sizes (length subckts)) (ports_at (subckts ++ b ∷ []) (length subckts))) (sym same)
            (subst (λ (ports : List (List ℕ)). IsTableBy (pins_at sizes (length subckts)) ports t) (sym (ports_new subckts b)) new))
      ];
    }

-- a number that stands still is 0 only at 0
by_count : (count : ℕ) (ports : List (List ℕ)) (t : Option NameIndex) → IsTableBy (min count (most_pins + 1)) ports t → IsTableBy count ports t
by_count count ports None none = omega (arith, none)
by_count count ports (Some table) finds = finds

-- the sizes say where there are pins
pub tables_sized : (subckts : List ResolvedSubckt) (top : ℕ) (sizes : List Size) (tables : List (Option NameIndex)) → ((index : ℕ) → Reaches (graph subckts) top index → index < length subckts) → AreSubcktSizes subckts top sizes → AreTablesBy subckts sizes tables → ArePortTables subckts top tables
tables_sized subckts top sizes tables within known t = record {
  sized = t.sized;
  each = λ index other r.
      let pins : pins_at sizes index ≡ min (length (pins_of subckts (walk_at subckts index))) (most_pins + 1) = ap (λ (s : Size). s.pins) ((known index r).is (record { leaves = 0; pins = 0 })) in
      by_count (length (pins_of subckts (walk_at subckts index))) (ports_at subckts index) (get_or tables index other)
      (subst (λ (n : ℕ). IsTableBy n (ports_at subckts index) (get_or tables index other)) pins (t.each index other (within index r)));
}
