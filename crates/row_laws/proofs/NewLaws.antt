-- Names that are not found are new.
use Rattle.std.proofs.Common.{◌≡◌, ◌≢◌, ℕ, ◌+◌, List, [], ◌∷◌, map, Bool, true, false, cond, ◌||◌, None, Some, refl, sym, ap, subst, ◌∙◌}
use Rattle.std.specs.List.{position_from, AllByRecursion}
use Rattle.or_geom.proofs.NameLaws.{other_name}
use Rattle.netlist.specs.declared.deck.Subckt.{Subckt}
use Rattle.spice_text.specs.Subcircuits.{name_of}
use Rattle.spice_text.specs.Words.{is_among}
use Rattle.spice_text.specs.Writable.{lowered_subckt}
use Rattle.spice_netlist.specs.Names.{same_name, index_of}
use Rattle.spice_netlist.specs.Resolved.{names_of}
use Rattle.or_geom.proofs.NamePlaceLaws.{same_self}
use Rattle.row_laws.specs.Laws.{NamesAreNew}

not_among : (x : List ℕ) (i : ℕ) (ns : List (List ℕ)) → position_from (same_name x) i ns ≡ None → is_among x ns ≡ false
not_among x i [] none = refl
not_among x i (n ∷ ns) none = by (same_name x n) refl none (not_among x (i + 1) ns)
  where
    by : (b : Bool) → same_name x n ≡ b → cond b (Some i) (position_from (same_name x) (i + 1) ns) ≡ None → (position_from (same_name x) (i + 1) ns ≡ None → is_among x ns ≡ false) → is_among x (n ∷ ns) ≡ false
    by true is e more = absurd cc
    by false is e more =
        let other : x ≢ n = λ one. let yes : same_name x n ≡ true = ap (same_name x) (sym one) ∙ same_self x in absurd cc in
        (λ j. other_name x n other j || more e j)

pub names_new : NamesAreNew
names_new before after lowered free = along (names_of after) free
  where
    names : names_of before ≡ map name_of before
    names = same_list before ∙ ap (map name_of) lowered
      where
        same_list : (ss : List Subckt) → names_of ss ≡ map name_of (map lowered_subckt ss)
        same_list [] = refl
        same_list (s ∷ ss) = ap (λ l. (lowered_subckt s).name ∷ l) (same_list ss)

    along : (ns : List (List ℕ)) → AllByRecursion (λ n. index_of (names_of before) n ≡ None) ns → AllByRecursion (λ n. is_among n (map name_of before) ≡ false) ns
    along [] all = tt
    along (n ∷ ns) all = (subst (λ (l : List (List ℕ)). is_among n l ≡ false) names (not_among n 0 (names_of before) all.0), along ns all.1)
