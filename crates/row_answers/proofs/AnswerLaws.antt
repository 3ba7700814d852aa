-- The refusals in their order, and the rows where there is none.
use Rattle.std.proofs.Common.{◌≡◌, ◌≢◌, ◌⊎◌, inl, inr, ℕ, ◌+◌, ◌<◌, ◌≤◌, List, length, Option, None, Some, refl, arith}
use Rattle.std.proofs.lemmas.Bool.{cases_lt}
use Rattle.reference_graph.specs.Reaches.{AreWithin, IsAcyclic}
use Rattle.netlist.specs.declared.rows.RowPin.{RowPin}
use Rattle.spice_text.specs.Words.{lower}
use Rattle.spice_netlist.specs.declared.resolved.ResolvedSubckt.{ResolvedSubckt}
use Rattle.spice_netlist.specs.declared.fault.FlatFault.{FlatFault}
use Rattle.spice_netlist.specs.declared.fault.FlatFault.TheVariants.{UnknownSubckt, Cycle, PortCount, TooMany, Memory}
use Rattle.spice_netlist.specs.Limits.{most_leaves, most_pins}
use Rattle.spice_netlist.specs.Least.{IsLeastOf}
use Rattle.spice_netlist.specs.Names.{index_of}
use Rattle.spice_netlist.specs.Resolved.{names_of, resolved_subckts, subckt_name_at, graph}
use Rattle.spice_netlist.specs.Walk.{walk_at, first_bad, leaf_count}
use Rattle.spice_netlist.specs.Pins.{named_rows}
use Rattle.spice_netlist.specs.Faults.{IsUnknownSubckt, IsCyclicSubckt, AreAllThere, IsHierarchy, IsFaultAt, IsFaultOfTop, AreRowsAt, AreRows}
use Rattle.spice_netlist.proofs.ResolvedLaws.{index_within, resolved_long, resolved_within}
use Rattle.row_laws.proofs.NumberingLaws.{SomeRows, deck_rows}
use Rattle.row_answers.specs.RowAnswers.{RowAnswersAreThere}
use Rattle.row_answers.proofs.LeastNameLaws.{unknown_found, cyclic_found}

abbrev HasAnswerAt : List ResolvedSubckt → ℕ → Type 0
HasAnswerAt subckts top = ((rows : List RowPin) × AreRowsAt subckts top rows) ⊎ ((fault : FlatFault) × (fault ≢ Memory) × IsFaultAt subckts top fault)

module _ (subckts : List ResolvedSubckt) (top : ℕ) (some : SomeRows (named_rows subckts top)) where
  -- as many leaf instances and pins as may be
  sized_answer : IsHierarchy subckts top → first_bad subckts (walk_at subckts top) ≡ None
      → (most_leaves < leaf_count subckts (walk_at subckts top)) ⊎ (leaf_count subckts (walk_at subckts top) ≤ most_leaves)
      → (most_pins < length (named_rows subckts top)) ⊎ (length (named_rows subckts top) ≤ most_pins) → HasAnswerAt subckts top
  sized_answer h good (inl many) pins = inr (TooMany (most_leaves + 1), (λ e. absurd cc), (h, good, record { either = inl (many, refl) }))
  sized_answer h good (inr few) (inl many) =
      inr (TooMany (most_pins + 1), (λ e. absurd cc), (h, good, record { either = inr (few, many, refl) }))
  sized_answer h good (inr few) (inr fits) =
      inl (some.rows, record { hierarchy = h; good = good; small = record { leaves = few; pins = fits }; numbered = some.numbered })

  -- as many nodes as ports
  matched_answer : IsHierarchy subckts top → (bad : Option (List ℕ)) → first_bad subckts (walk_at subckts top) ≡ bad → HasAnswerAt subckts top
  matched_answer h (Some path) is = inr (PortCount path, (λ e. absurd cc), (h, is))
  matched_answer h None good =
      sized_answer h good (cases_lt most_leaves (leaf_count subckts (walk_at subckts top))) (cases_lt most_pins (length (named_rows subckts top)))

  -- no cycle
  acyclic_answer : AreAllThere subckts top → (found : Option (List ℕ)) → IsLeastOf (IsCyclicSubckt subckts top) found → HasAnswerAt subckts top
  acyclic_answer there (Some name) least = inr (Cycle name, (λ e. absurd cc), (there, least))
  acyclic_answer there None none =
      let acyclic : IsAcyclic (graph subckts) top = λ node reached itself.
      none (subckt_name_at subckts node) (record { index = node; reached = reached; itself = itself; is = refl }) in
      matched_answer (record { there = there; acyclic = acyclic }) (first_bad subckts (walk_at subckts top)) refl

  -- all names are there
  known_answer : AreWithin (graph subckts) → top < length subckts → (found : Option (List ℕ)) → IsLeastOf (IsUnknownSubckt subckts top) found
      → HasAnswerAt subckts top
  known_answer within inside (Some name) least = inr (UnknownSubckt name, (λ e. absurd cc), least)
  known_answer within inside None there = let c = cyclic_found subckts top within inside in acyclic_answer there c.found c.is

  answer_at : AreWithin (graph subckts) → top < length subckts → HasAnswerAt subckts top
  answer_at within inside = let u = unknown_found subckts top within inside in known_answer within inside u.found u.is

pub row_answers_are_there : RowAnswersAreThere
row_answers_are_there subckts top leaves = by (index_of (names_of subckts) (lower top)) refl
  where
    resolved : List ResolvedSubckt
    resolved = resolved_subckts subckts (lower top) leaves

    by : (o : Option ℕ) → index_of (names_of subckts) (lower top) ≡ o
        → ((rows : List RowPin) × AreRows resolved o rows) ⊎ ((fault : FlatFault) × (fault ≢ Memory) × IsFaultOfTop resolved (lower top) o fault)
    by None absent = inr (UnknownSubckt (lower top), (λ e. absurd cc), refl)
    by (Some index) is =
        let lt = index_within (names_of subckts) (lower top) index is in
        answer_at resolved index (deck_rows subckts (lower top) leaves index) (resolved_within subckts (lower top) leaves)
        (omega (arith, lt, resolved_long subckts (lower top) leaves))
