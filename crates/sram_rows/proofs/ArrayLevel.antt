-- The array: what it flattens to, where its names are seen as the nets of bank b.
use Rattle.std.proofs.Common.{◌≡◌, ◌⊎◌, inl, inr, ℕ, suc, ◌+◌, ◌<◌, List, [], ◌∷◌, ◌++◌, map, length, Option, refl, sym, ap, ◌∙◌, arith}
use Rattle.std.specs.Prelude.{codes}
use Rattle.std.specs.List.{flat_map, AllByRecursion}
use Rattle.std.specs.Fmt.{decimal}
use Rattle.std.proofs.lemmas.List.{length-append}
use Rattle.spice_netlist.specs.declared.resolved.ResolvedSubckt.{ResolvedSubckt}
use Rattle.spice_netlist.specs.Resolved.{resolved_instance}
use Rattle.spice_netlist.specs.Walk.{visits_in, visits_by, FlatNet}
use Rattle.row_laws.specs.Flattens.{Flattens, see_in, IsDeep, inside_instance}
use Rattle.row_laws.proofs.FlatLaws.{flat_eachs}
use Rattle.row_laws.proofs.InLaws.{local_in}
use Rattle.row_laws.proofs.LookLaws.{look, look_past, look_name, look_none, IsOneOf, AreOther, one_left, one_right, all_append}
use Rattle.sram_netlist.specs.Organization.{Organization, columns_of, bank_rows, IsBuildable}
use Rattle.sram_netlist.specs.Nets.{Bl, Br}
use Rattle.cell_roles.specs.declared.role.Role.{Role}
use Rattle.cell_roles.specs.Roles.{supplies}
use Rattle.sram_netlist.specs.Netlist.{wlen_at}
use Rattle.sram_netlist.specs.Names.{with_number, full_name, to_array, in_array}
use Rattle.sram_netlist.specs.InstanceList.{numbers_from, row_leaves}
use Rattle.sram_netlist.specs.BitCells.{BitCells, row_name}
use Rattle.sram_deck.specs.Deck.{predecode_lines, all_bit_lines, row_inputs, row_lines_from, row_ports, row_instances, array_row, array_instances}
use Rattle.sram_rows.proofs.DigitLaws.{plain_all, plain_tail, not_single, plain_low}
use Rattle.sram_rows.proofs.Segments.{all_numbers, of_bit_lines, one_bl, one_br, row_lines_there}
use Rattle.sram_rows.proofs.LeafInstances.{HasLeaves, row_of, below, by_name}
use Rattle.sram_rows.proofs.SubcktInstances.{HasSubckt, IsInstanceOf, seen_is, subckt_flat, net_within}
use Rattle.sram_rows.proofs.LineNames.{lines_names}
use Rattle.sram_rows.proofs.RowLevel.{RowSees, row_flat}
use Rattle.sram_rows.proofs.PlainNames.{few_rows, row_nodes_plain}

-- what is seen from the top of the names in an array
pub record ArraySees (plan : Organization) (b : ℕ) (see : FlatNet → List ℕ) : Type 0 where
  pub line : (n : List ℕ) → IsOneOf n (predecode_lines plan) → by_name see n ≡ n
  pub wlen : by_name see (codes "wlen") ≡ full_name plan (wlen_at plan.bank_bits b)
  pub bl : (c : ℕ) → c < columns_of plan → by_name see (with_number (codes "bl") c) ≡ full_name plan (Bl b c)
  pub br : (c : ℕ) → c < columns_of plan → by_name see (with_number (codes "br") c) ≡ full_name plan (Br b c)
  pub vdd : by_name see (codes "vdd") ≡ codes "vdd"
  pub gnd : by_name see (codes "gnd") ≡ codes "gnd"
  pub deep : IsDeep see (in_array plan b)

inputs_other : (x y : ℕ) (zs : List ℕ) (bs : List ℕ) (c : ℕ) → AreOther (x ∷ y ∷ zs) (row_inputs c bs)
inputs_other x y zs [] c = tt
inputs_other x y zs (b ∷ bs) c = (not_single x y zs c, inputs_other x y zs bs (suc c))

inputs_long : (bs : List ℕ) (c g r : ℕ) → length (row_inputs c bs) ≡ length (row_lines_from bs g r)
inputs_long [] c g r = refl
inputs_long (b ∷ bs) c g r = ap suc (inputs_long bs (suc c) (suc g) _)

-- each input of a row's gate is joined with a line
inputs_seen : (groups : List ℕ) (r : ℕ) (tail label : List (List ℕ)) (at : List ℕ) (see seen : FlatNet → List ℕ) → (length groups ≡ 2) ⊎ (length groups ≡ 3) → AllByRecursion (λ n. by_name see n ≡ n) (row_lines_from groups 0 r)
    → ((n : List ℕ) → by_name seen n ≡ see (look (net_within at n) (row_inputs 97 groups ++ tail) (row_lines_from groups 0 r ++ tail) n)) → map (by_name seen) (row_inputs 97 groups) ≡ row_lines_from groups 0 r
inputs_seen [] r tail label at see seen sized predecode_lines is = refl
inputs_seen (a ∷ []) r tail label at see seen (inl e) predecode_lines is = absurd (omega (arith, e))
inputs_seen (a ∷ []) r tail label at see seen (inr e) predecode_lines is = absurd (omega (arith, e))
inputs_seen (a ∷ b ∷ []) r tail label at see seen sized predecode_lines is = λ i. (is (97 ∷ []) ∙ predecode_lines.0) i ∷ (is (98 ∷ []) ∙ predecode_lines.1.0) i ∷ []
inputs_seen (a ∷ b ∷ c ∷ []) r tail label at see seen sized predecode_lines is = λ i. (is (97 ∷ []) ∙ predecode_lines.0) i ∷ (is (98 ∷ []) ∙ predecode_lines.1.0) i ∷ (is (99 ∷ []) ∙ predecode_lines.1.1.0) i ∷ []
inputs_seen (a ∷ b ∷ c ∷ d ∷ ds) r tail label at see seen (inl e) predecode_lines is = absurd (omega (arith, e))
inputs_seen (a ∷ b ∷ c ∷ d ∷ ds) r tail label at see seen (inr e) predecode_lines is = absurd (omega (arith, e))

along : (P Q : List ℕ → Type 0) (ns : List (List ℕ)) → ((n : List ℕ) → P n → Q n) → AllByRecursion P ns → AllByRecursion Q ns
along P Q [] h all = tt
along P Q (n ∷ ns) h all = (h n all.0, along P Q ns h all.1)

module _ (plan : Organization) (p : IsBuildable plan) (cell : Role → List ℕ) (bits : BitCells) (name : List ℕ) (subckts : List ResolvedSubckt) (find : List ℕ → Option ℕ) (leaf : HasLeaves plan cell bits subckts find)
    (row : (r : ℕ) → r < bank_rows plan → HasSubckt subckts find (row_name bits name r) (row_ports plan) (row_instances plan cell bits r)) (b : ℕ) (see : FlatNet → List ℕ) (s : ArraySees plan b see) where
  abbrev tail : List (List ℕ)
  tail = codes "wlen" ∷ (all_bit_lines plan ++ supplies)

  module _ (r : ℕ) (few : r < bank_rows plan) where
    abbrev nodes : List (List ℕ)
    nodes = row_lines_from plan.groups 0 r ++ tail

    row_is : IsInstanceOf (array_row plan bits name r) (row_name bits name r) (with_number (codes "xr") r) (row_ports plan) nodes
    row_is = record {
      of = refl;
      named = plain_low _ (plain_tail r (few_rows plan p r few) [] refl);
      joined = plain_all nodes (row_nodes_plain plan p r);
      sized = length-append (row_inputs 97 plan.groups) tail ∙ ap (λ (n : ℕ). n + length tail) (inputs_long plan.groups 97 0 r) ∙ sym (length-append (row_lines_from plan.groups 0 r) tail);
    }

    abbrev seen : FlatNet → List ℕ
    seen = see_in subckts see (resolved_instance find (array_row plan bits name r)) (row r few).index

    is : (n : List ℕ) → by_name seen n ≡ see (look (net_within (with_number (codes "xr") r) n) (row_ports plan) nodes n)
    is n = seen_is subckts find (row_name bits name r) (row_ports plan) (row_instances plan cell bits r) (row r few) see (array_row plan bits name r) (with_number (codes "xr") r) nodes row_is n

    -- a name of two bytes or more that stands among the ports is passed on
    passed : (x y : ℕ) (zs : List ℕ) → IsOneOf (x ∷ y ∷ zs) tail → by_name seen (x ∷ y ∷ zs) ≡ by_name see (x ∷ y ∷ zs)
    passed x y zs there =
        is (x ∷ y ∷ zs)
        ∙ ap see (look_past (net_within (with_number (codes "xr") r) (x ∷ y ∷ zs)) (x ∷ y ∷ zs) (row_inputs 97 plan.groups) tail (row_lines_from plan.groups 0 r) tail (inputs_long plan.groups 97 0 r) (inputs_other x y zs plan.groups 97)
        ∙ look_name (net_within (with_number (codes "xr") r) (x ∷ y ∷ zs)) (x ∷ y ∷ zs) tail there)

    -- and one that doesn't is local
    own : (x y : ℕ) (zs : List ℕ) → AreOther (x ∷ y ∷ zs) tail → by_name seen (x ∷ y ∷ zs) ≡ inside_instance (in_array plan b) (with_number (codes "xr") r) ++ (x ∷ y ∷ zs)
    own x y zs other =
        is (x ∷ y ∷ zs)
        ∙ ap see (look_past (net_within (with_number (codes "xr") r) (x ∷ y ∷ zs)) (x ∷ y ∷ zs) (row_inputs 97 plan.groups) tail (row_lines_from plan.groups 0 r) tail (inputs_long plan.groups 97 0 r) (inputs_other x y zs plan.groups 97)
        ∙ look_none (net_within (with_number (codes "xr") r) (x ∷ y ∷ zs)) (x ∷ y ∷ zs) tail tail other)
        ∙ local_in see (in_array plan b) (with_number (codes "xr") r) (x ∷ y ∷ zs) s.deep

    row_sees : RowSees plan b r seen
    row_sees = record {
      inputs =
          inputs_seen plan.groups r tail [] (with_number (codes "xr") r) see seen p.groups
          (along (λ n. IsOneOf n (predecode_lines plan)) (λ n. by_name see n ≡ n) (row_lines_from plan.groups 0 r) s.line (row_lines_there plan.groups 0 r (predecode_lines plan) (λ n h. h))) is
          ∙ sym (lines_names plan r p);
      wlen = passed 119 108 (101 ∷ 110 ∷ []) (inl refl) ∙ s.wlen;
      zb = own 122 98 [] (refl, all_append (λ q. _) (all_bit_lines plan) supplies (of_bit_lines _ plan (λ c lt. refl) (λ c lt. refl)) (refl, (refl, tt)));
      wl = own 119 108 [] (refl, all_append (λ q. _) (all_bit_lines plan) supplies (of_bit_lines _ plan (λ c lt. refl) (λ c lt. refl)) (refl, (refl, tt)));
      bl = λ c lt. passed 98 108 (decimal c ++ []) (inr (one_left (with_number (codes "bl") c) (all_bit_lines plan) supplies (one_bl plan c lt))) ∙ s.bl c lt;
      br = λ c lt. passed 98 114 (decimal c ++ []) (inr (one_left (with_number (codes "br") c) (all_bit_lines plan) supplies (one_br plan c lt))) ∙ s.br c lt;
      vdd = passed 118 100 (100 ∷ []) (inr (one_right (codes "vdd") (all_bit_lines plan) supplies (inl refl))) ∙ s.vdd;
      gnd = passed 103 110 (100 ∷ []) (inr (one_right (codes "gnd") (all_bit_lines plan) supplies (inr (inl refl)))) ∙ s.gnd;
    }

    row_part : (d : ℕ) → Flattens (row_of plan cell bits) subckts (to_array plan b) see (visits_in subckts (below subckts (suc d)) (resolved_instance find (array_row plan bits name r)) (resolved_instance find (array_row plan bits name r)).index) (row_leaves plan b r)
    row_part d =
        subckt_flat subckts find (row_name bits name r) (row_ports plan) (row_instances plan cell bits r) (row r few) see (array_row plan bits name r) (with_number (codes "xr") r) nodes row_is (row_of plan cell bits) d (to_array plan b) (row_leaves plan b r)
        (row_flat plan p cell bits subckts find leaf d b r few seen row_sees)

  -- the array's rows
  pub array_flat : (d : ℕ) → Flattens (row_of plan cell bits) subckts (to_array plan b) see (visits_by subckts (below subckts (suc d)) (map (resolved_instance find) (array_instances plan bits name))) (flat_map (row_leaves plan b) (numbers_from 0 (bank_rows plan)))
  array_flat d =
      flat_eachs (row_of plan cell bits) subckts (to_array plan b) see (below subckts (suc d)) (resolved_instance find) (array_row plan bits name) (row_leaves plan b) (numbers_from 0 (bank_rows plan))
      (all_numbers (λ r. Flattens (row_of plan cell bits) subckts (to_array plan b) see (visits_in subckts (below subckts (suc d)) (resolved_instance find (array_row plan bits name r)) (resolved_instance find (array_row plan bits name r)).index) (row_leaves plan b r)) 0 (bank_rows plan)
      (λ r from lt. row_part r (omega arith) d))
