-- What marks say when one more entry comes.
use Rattle.std.proofs.Common.{◌≡◌, ◌≢◌, ◌⊎◌, ◌↔◌, inl, inr, List, [], ◌∷◌, ◌++◌, Bool, true, false, Option, Some, None, refl, sym, ap, subst, ◌∙◌}
use Rattle.std.specs.Prelude.{Contains, IsTrue}
use Rattle.std.specs.Option.{option_copied}
use Rattle.std.proofs.lemmas.List.Elements.{Contains-append_left, Contains-push, Contains-push_cases}
use Rattle.or_geom.specs.declared.shape.Shape.{Shape}
use Rattle.leaf_contacts.specs.declared.stand.ReferenceStep.{ReferenceStep}
use Rattle.leaf_contacts.specs.declared.marks.Mark.{Mark}
use Rattle.leaf_contacts.proofs.SameLaws.{same_instance}
use Rattle.leaf_contacts.specs.Marks.{ShapeEntry, shape_entry, IsListedElsewhere, IsMark, IsMarkOrNone}

-- an entry of the longer list is one of the shorter, or the last
pub entry_cases : (entries : List ShapeEntry) (shape other : Shape) (o p : Option (List ReferenceStep)) → Contains (entries ++ shape_entry shape o ∷ []) (shape_entry other p) → Contains entries (shape_entry other p) ⊎ ((shape ≡ other) × (o ≡ p))
entry_cases entries shape other o p h = elim (Contains-push_cases entries (shape_entry shape o) (shape_entry other p) h) [
  | inl old ↦ inl old
  | inr same ↦ inr (ap (λ (e : ShapeEntry). e.shape) same, ap (λ (e : ShapeEntry). e.instance) same)
]

-- the first entry of a shape
pub first_mark : (entries : List ShapeEntry) (shape : Shape) (made : Mark) (o : Option (List ReferenceStep)) → ((p : Option (List ReferenceStep)) → Contains entries (shape_entry shape p) → ⊥) → option_copied made.instance ≡ o → made.elsewhere ≡ false
    → IsMark (entries ++ shape_entry shape o ∷ []) shape made
first_mark entries shape made o none same here = record {
  listed = subst (λ (p : Option (List ReferenceStep)). Contains (entries ++ shape_entry shape o ∷ []) (shape_entry shape p)) (sym same) (Contains-push entries (shape_entry shape o));
  elsewhere = λ told. absurd (cc);
  nowhere = λ untold e. elim (entry_cases entries shape shape o e.other e.listed) [ inl old ↦ none e.other old | inr is ↦ e.differs (sym is.1 ∙ sym same) ];
}

-- one more entry of a shape that is marked
pub mark_more : (entries : List ShapeEntry) (shape : Shape) (old made : Mark) (o : Option (List ReferenceStep)) → IsMark entries shape old → option_copied made.instance ≡ option_copied old.instance
    → (made.elsewhere ≡ true → (old.elsewhere ≡ true) ⊎ (o ≢ option_copied old.instance)) → (made.elsewhere ≡ false → (old.elsewhere ≡ false) × (o ≡ option_copied old.instance)) → IsMark (entries ++ shape_entry shape o ∷ []) shape made
mark_more entries shape old made o is same when_true when_false = record {
  listed = subst (λ (p : Option (List ReferenceStep)). Contains (entries ++ shape_entry shape o ∷ []) (shape_entry shape p)) (sym same) (Contains-append_left entries (shape_entry shape o ∷ []) (shape_entry shape (option_copied old.instance)) is.listed);
  elsewhere = λ e. elim (when_true e) [
    | inl before ↦
        let b = is.elsewhere before in
        record { other = b.other; listed = Contains-append_left entries (shape_entry shape o ∷ []) (shape_entry shape b.other) b.listed; differs = λ h. b.differs (h ∙ same) }
    | inr new ↦ record { other = o; listed = Contains-push entries (shape_entry shape o); differs = λ h. new (h ∙ same) }
  ];
  nowhere = λ e there. elim (entry_cases entries shape shape o there.other there.listed) [
    | inl before ↦ is.nowhere (when_false e).0 (record { other = there.other; listed = before; differs = λ h. there.differs (h ∙ sym same) })
    | inr last ↦ there.differs (sym last.1 ∙ ((when_false e).1 ∙ sym same))
  ];
}

-- an entry of another shape changes when_false mark
pub other_mark : (entries : List ShapeEntry) (shape other : Shape) (o : Option (List ReferenceStep)) (mark : Option Mark) → (shape ≡ other → ⊥) → IsMarkOrNone entries other mark → IsMarkOrNone (entries ++ shape_entry shape o ∷ []) other mark
other_mark entries shape other o None differ none = λ p h. elim (entry_cases entries shape other o p h) [ inl old ↦ none p old | inr is ↦ differ is.0 ]
other_mark entries shape other o (Some mark) differ is = record {
  listed = Contains-append_left entries (shape_entry shape o ∷ []) (shape_entry other (option_copied mark.instance)) is.listed;
  elsewhere = λ e. let b = is.elsewhere e in record { other = b.other; listed = Contains-append_left entries (shape_entry shape o ∷ []) (shape_entry other b.other) b.listed; differs = b.differs };
  nowhere = λ e there. elim (entry_cases entries shape other o there.other there.listed) [
    | inl before ↦ is.nowhere e (record { other = there.other; listed = before; differs = there.differs })
    | inr last ↦ differ last.0
  ];
}

-- whether a marked shape stands elsewhere than in an instance
pub elsewhere_told : (entries : List ShapeEntry) (shape : Shape) (mark : Mark) (o : Option (List ReferenceStep)) (told : Bool) → IsMark entries shape mark → (told ≡ true → (mark.elsewhere ≡ true) ⊎ (o ≢ option_copied mark.instance))
    → (told ≡ false → (mark.elsewhere ≡ false) × (o ≡ option_copied mark.instance)) → IsTrue told ↔ IsListedElsewhere entries shape o
elsewhere_told entries shape mark o told is when_true when_false = (
  (λ t. elim (same_instance o (option_copied mark.instance)) [
    | inl same ↦ elim (when_true t) [
      | inl e ↦ let b = is.elsewhere e in record { other = b.other; listed = b.listed; differs = λ h. b.differs (h ∙ same) }
      | inr other ↦ absurd (other same)
    ]
    | inr other ↦ record { other = option_copied mark.instance; listed = is.listed; differs = λ h. other (sym h) }
  ]),
  (λ there. told_true told (λ f. let w = when_false f in is.nowhere w.0 (record { other = there.other; listed = there.listed; differs = λ h. there.differs (h ∙ sym w.1) }))),
)
  where
    told_true : (b : Bool) → (b ≡ false → ⊥) → IsTrue b
    told_true true h = refl
    told_true false h = absurd (h refl)
