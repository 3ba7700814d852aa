-- A macro's names begin with its own.
use Rattle.std.proofs.Common.{◌≡◌, inl, inr, ℕ, List, [], ◌∷◌, ◌++◌, Contains, Bool, true, false, cond, None, Some, map, append_assoc, refl, sym, ap, subst, ◌∙◌}
use Rattle.std.specs.Prelude.{codes, ◌||◌}
use Rattle.std.specs.List.{list_any}
use Rattle.std.specs.Char.{to_ascii_lowercase}
use Rattle.std.specs.Str.{bytes_eq, str_eq_ignore_ascii_case}
use Rattle.std.proofs.lemmas.List.{append-nil, map-append}
use Rattle.std.proofs.lemmas.Slice.Eq.{bytes_eq-Decides}
use Rattle.or_geom.proofs.ListLaws.{contains_first, contains_later}
use Rattle.gds_library.specs.declared.library.Structure.{Structure}
use Rattle.netlist.specs.declared.deck.Subckt.{Subckt}
use Rattle.wire_drawing.specs.declared.route.RouteFault.{RouteFault}
use Rattle.wire_drawing.specs.declared.route.RouteFault.TheVariants as route_fault
use Rattle.leaf_tables.specs.declared.kit.Kit.{Kit}
use Rattle.leaf_tables.specs.declared.part.PartFault.TheVariants as part_fault
use Rattle.leaf_tables.specs.Parts.{of_route}
use Rattle.sram_netlist.specs.BitCells.{BitCells, Alike, Apart, row_kinds, row_name}
use Rattle.sram_netlist.specs.InstanceList.{numbers_from}
use Rattle.sram_netlist.specs.Organization.{bank_rows}
use Rattle.sram_plan.specs.PlanNumbers.{organization}
use Rattle.macro_layout.specs.Cells.{array_cell_name, pre_cell_name, data_cell_name, bank_cell_name, logic_cell_name}
use Rattle.macro_bounds.specs.Differ.{other_names}
use Rattle.sram_macro.specs.Macro.{macro_bits}
use Rattle.sram_macro.specs.Names.{is_structure_name, is_subckt_name, is_taken, first_taken}
use Rattle.macro_facts.specs.Unused.{IsUnusedName, UnusedNamesAreFree}

abbrev low : List ℕ → List ℕ
low text = map to_ascii_lowercase text

-- the text doesn't begin with the other, without regard to case
abbrev IsElse : List ℕ → List ℕ → Type 0
IsElse text start = (rest : List ℕ) → low text ≡ low start ++ rest → ⊥

longer_differs : (text start more : List ℕ) → IsElse text start → str_eq_ignore_ascii_case text (start ++ more) ≡ false
longer_differs text start more other = by (bytes_eq (low text) (low (start ++ more))) refl where
  by : (t : Bool) → bytes_eq (low text) (low (start ++ more)) ≡ t → t ≡ false
  by true same = absurd (other (low more) ((bytes_eq-Decides (low text) (low (start ++ more))).0 same ∙ map-append to_ascii_lowercase start more))
  by false e = refl

both_false : (s t : Bool) → s ≡ false → t ≡ false → (s || t) ≡ false
both_false true t e f = absurd cc
both_false false t e f = f

none_has : {X : Type 0} (name : X → List ℕ) (xs : List X) (start more : List ℕ) → ((x : X) → Contains xs x → IsElse (name x) start)
    → list_any (λ (x : X). str_eq_ignore_ascii_case (name x) (start ++ more)) xs ≡ false
none_has name [] start more others = refl
none_has {X = X} name (x ∷ xs) start more others =
    both_false (str_eq_ignore_ascii_case (name x) (start ++ more)) (list_any (λ (y : X). str_eq_ignore_ascii_case (name y) (start ++ more)) xs)
    (longer_differs (name x) start more (others x (contains_first x xs)))
    (none_has {X = X} name xs start more (λ (y : X) c. others y (contains_later x xs y c)))

longer_is_free : (kit : Kit) (name more : List ℕ) → IsUnusedName kit name → is_taken kit (name ++ more) ≡ false
longer_is_free kit name more unused =
    both_false (is_structure_name kit.lib.structs (name ++ more)) (is_subckt_name kit.deck.subckts (name ++ more))
    (none_has (λ (s : Structure). s.name) kit.lib.structs name more (λ (s : Structure) c rest e. unused.structs s rest c e))
    (none_has (λ (s : Subckt). s.name) kit.deck.subckts name more (λ (s : Subckt) c rest e. unused.subckts s rest c e))

-- none of the names is taken
passed_over : (kit : Kit) (name : List ℕ) (names : List (List ℕ)) → is_taken kit name ≡ false → first_taken kit names ≡ None → first_taken kit (name ∷ names) ≡ None
passed_over kit name names free rest = ap (λ (t : Bool). cond t (Some name) (first_taken kit names)) free ∙ rest

itself_is_free : (kit : Kit) (name : List ℕ) → IsUnusedName kit name → is_taken kit name ≡ false
itself_is_free kit name unused = ap (is_taken kit) (sym (append-nil name)) ∙ longer_is_free kit name [] unused

-- a row's name begins with the macro's too
row_is_free : (kit : Kit) (bits : BitCells) (name : List ℕ) (row : ℕ) → IsUnusedName kit name → is_taken kit (row_name bits name row) ≡ false
row_is_free kit (Alike cell) name row unused = longer_is_free kit name (codes "_row") unused
row_is_free kit (Apart cells) name row unused = subst (λ (text : List ℕ). is_taken kit text ≡ false) (sym (append_assoc name (codes "_row") _)) (longer_is_free kit name (codes "_row" ++ _) unused)

others_are_free : (kit : Kit) (name : List ℕ) → IsUnusedName kit name → first_taken kit (other_names name) ≡ None
others_are_free kit name unused =
    passed_over kit (array_cell_name name) (pre_cell_name name ∷ data_cell_name name ∷ bank_cell_name name ∷ logic_cell_name name ∷ name ∷ []) (longer_is_free kit name (codes "_array") unused)
    (passed_over kit (pre_cell_name name) (data_cell_name name ∷ bank_cell_name name ∷ logic_cell_name name ∷ name ∷ []) (longer_is_free kit name (codes "_pre") unused)
    (passed_over kit (data_cell_name name) (bank_cell_name name ∷ logic_cell_name name ∷ name ∷ []) (longer_is_free kit name (codes "_data") unused)
    (passed_over kit (bank_cell_name name) (logic_cell_name name ∷ name ∷ []) (longer_is_free kit name (codes "_bank") unused)
    (passed_over kit (logic_cell_name name) (name ∷ []) (longer_is_free kit name (codes "_logic") unused)
    (passed_over kit name [] (itself_is_free kit name unused) refl)))))

all_are_free : (kit : Kit) (bits : BitCells) (name : List ℕ) (rows : List ℕ) → IsUnusedName kit name → first_taken kit (map (row_name bits name) rows ++ other_names name) ≡ None
all_are_free kit bits name [] unused = others_are_free kit name unused
all_are_free kit bits name (row ∷ rows) unused =
    passed_over kit (row_name bits name row) (map (row_name bits name) rows ++ other_names name) (row_is_free kit bits name row unused) (all_are_free kit bits name rows unused)

-- no other fault says that a name is taken
not_routed : (route : RouteFault) (taken : List ℕ) → part_fault.NameTaken taken ≡ of_route route → ⊥
not_routed (route_fault.Close side first second) taken e = cc
not_routed (route_fault.TapsClose first second) taken e = cc
not_routed route_fault.Memory taken e = cc

pub unused_names_are_free : UnusedNamesAreFree
unused_names_are_free kit plan held name taken is unused (inl first) =
    let none = all_are_free kit (macro_bits kit plan held) name (numbers_from 0 (row_kinds (macro_bits kit plan held) (bank_rows (organization plan)))) unused in cc
unused_names_are_free kit plan held name taken is unused (inr (free, inl (inl narrow))) = narrow
unused_names_are_free kit plan held name taken is unused (inr (free, inl (inr (wide, column)))) = column is.wire is.wired
unused_names_are_free kit plan held name taken is unused (inr (free, inr (wide, (routed, of, (wire, wired, inl taps))))) = taps.is
unused_names_are_free kit plan held name taken is unused (inr (free, inr (wide, (routed, of, (wire, wired, inr main))))) = not_routed main.route taken main.same
