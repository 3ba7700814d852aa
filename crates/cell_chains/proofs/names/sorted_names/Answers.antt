-- What a sort and a dedup keep.
use Rattle.std.proofs.Common.{ℕ, List, sym, subst}
use Rattle.std.specs.Prelude.{Contains}
use Rattle.std.specs.Cmp.Lexicographic.{on_texts, texts_ties, nat_list_eq_equiv}
use Rattle.std.specs.Str.{bytes_eq}
use Rattle.std.proofs.lemmas.Cmp.{on_equiv}
use Rattle.std.proofs.lemmas.List.Filters.{dedup_is}
use Rattle.std.proofs.lemmas.List.Kept.{IsStrictlySortedBy-dedup}
use Rattle.std.proofs.lemmas.Slice.Eq.{bytes_eq-Decides}
use Rattle.cell_chains.proofs.NameLaws.{rises_from}
use Rattle.cell_chains.proofs.MemberLaws.{keeps_texts}
use Rattle.cell_chains.proofs.names.sorted_names.Goals as goal
use denote.Ref.{Bor}

pub returns : goal.returns
returns c =
    let is = dedup_is _ _ _ c.dedup.ensures.filtered in
    record {
      rises = rises_from _ (rw is (IsStrictlySortedBy-dedup (on_texts (λ x. x.now)) (λ x y. texts_ties x.now y.now) _ c.sort_unstable.ensures.sorted));
      all = λ name h. rw is
          (keeps_texts (λ (x y : Bor (List ℕ)). bytes_eq x.now y.now) (on_equiv (λ (x : Bor (List ℕ)). x.now) nat_list_eq_equiv) (λ x y same. (bytes_eq-Decides x.now y.now).0 same) c.in_ok-names.names.items c.sort_unstable.new.self.items
          c.sort_unstable.ensures.permutation name (subst (λ (xs : List (List ℕ)). Contains xs name) (sym c.in_ok-names.ensures) h));
    }
