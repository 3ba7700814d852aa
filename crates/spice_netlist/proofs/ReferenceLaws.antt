-- The indices of the instances so far, one instance more.
use Rattle.std.proofs.Common.{◌≡◌, ℕ, zero, suc, ◌+◌, ◌<◌, List, [], ◌∷◌, ◌++◌, length, get_or, take, Option, None, Some, sym, ap, subst, ◌∙◌, arith}
use Rattle.std.specs.List.{cons_option}
use Rattle.std.proofs.lemmas.List.{take_more, append-nil}
use Rattle.std.proofs.lemmas.List.Elements.{filter_map-append}
use Rattle.std.specs.Prelude.{Contains}
use Rattle.or_geom.proofs.ListLaws.{contains_first, contains_option}
use Rattle.spice_netlist.specs.declared.resolved.ResolvedInstance.{ResolvedInstance}
use Rattle.spice_netlist.specs.Resolved.{subckt_references}

pub references_more : (instances : List ResolvedInstance) (i : ℕ) (instance : ResolvedInstance) → i < length instances → instance ≡ get_or instances i instance → subckt_references (take (i + 1) instances) ≡ subckt_references (take i instances) ++ cons_option instance.index []
references_more instances i instance lt is =
    ap subckt_references (take_more instances i instance lt)
    ∙ filter_map-append (λ (p : ResolvedInstance). p.index) (take i instances) (get_or instances i instance ∷ [])
    ∙ ap (λ (p : ResolvedInstance). subckt_references (take i instances) ++ cons_option p.index []) (sym is)

pub references_skip : (instances : List ResolvedInstance) (i : ℕ) (instance : ResolvedInstance) → i < length instances → instance ≡ get_or instances i instance → instance.index ≡ None → subckt_references (take (i + 1) instances) ≡ subckt_references (take i instances)
references_skip instances i instance lt is none = references_more instances i instance lt is ∙ ap (λ (o : Option ℕ). subckt_references (take i instances) ++ cons_option o []) none ∙ append-nil (subckt_references (take i instances))

pub references_add : (instances : List ResolvedInstance) (i : ℕ) (instance : ResolvedInstance) (index : ℕ) → i < length instances → instance ≡ get_or instances i instance → instance.index ≡ Some index → subckt_references (take (i + 1) instances) ≡ subckt_references (take i instances) ++ index ∷ []
references_add instances i instance index lt is some = references_more instances i instance lt is ∙ ap (λ (o : Option ℕ). subckt_references (take i instances) ++ cons_option o []) some

-- the index of an instance is among the indices
pub listed : (instances : List ResolvedInstance) (i : ℕ) (instance : ResolvedInstance) (index : ℕ) → i < length instances → instance ≡ get_or instances i instance → instance.index ≡ Some index → Contains (subckt_references instances) index
listed [] i instance index lt is some = absurd (omega arith)
listed (p ∷ ps) zero instance index lt is some =
    let here : p.index ≡ Some index = sym (ap (λ (q : ResolvedInstance). q.index) is) ∙ some in
    subst (λ (o : Option ℕ). Contains (cons_option o (subckt_references ps)) index) (sym here) (contains_first index (subckt_references ps))
listed (p ∷ ps) (suc i) instance index lt is some = contains_option p.index (subckt_references ps) index (listed ps i instance index (omega arith) is some)
