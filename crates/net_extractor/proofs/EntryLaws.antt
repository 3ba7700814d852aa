-- Entries made one by one, and what they say in the end.
use Rattle.std.proofs.Common.{◌≡◌, ◌⊎◌, ◌↔◌, inl, inr, ℕ, ◌+◌, ◌<◌, ◌≤◌, List, [], ◌∷◌, ◌++◌, length, get_or, map, take, refl, sym, ap, subst, ◌∙◌, arith, append_assoc, append-nil}
use Rattle.std.specs.Prelude.{Contains, Option, Some, None}
use Rattle.std.specs.List.Sorted.{IsStrictlySortedBy}
use Rattle.std.proofs.lemmas.List.{map-append, take_more, take_all}
use Rattle.std.proofs.lemmas.List.Elements.{Contains-push_cases}
use Rattle.or_geom.specs.declared.shape.Shape.{Shape}
use Rattle.or_geom.proofs.ListLaws.{contained_at}
use Rattle.or_geom.specs.ShapeOrder.{shape_order}
use Rattle.tech_rules.specs.declared.tech.Connect.{Connect}
use Rattle.cell_hierarchy.specs.declared.flat.Label.{Label}
use Rattle.cell_hierarchy.specs.Plain.{plain_label}
use Rattle.element_drawing.specs.PlainLabel.{PlainLabel}
use Rattle.label_binding.specs.declared.anchor.Anchor.{Anchor}
use Rattle.net_extractor.specs.PlainNetLabel.{PlainNetLabel}
use Rattle.net_extractor.specs.declared.numbering.Numbering.{Numbering}
use Rattle.tech_rules.specs.Net.{AreOnOneNet}
use Rattle.label_binding.specs.Binding.{Binds, BindsNone}
use Rattle.label_binding.specs.Bound.{IsBoundAt}
use Rattle.net_extractor.specs.Numbering.{NetHasNumber, IsNumbering}
use Rattle.net_extractor.specs.FirstAppearance.{AppearFrom}
use Rattle.net_extractor.specs.Entries.{entry, IsUnbound, IsNetOf}
use Rattle.net_extractor.specs.Extraction.{label_of, anchor_of, AreNetsUnder}
use Rattle.net_extractor.proofs.NumberLaws.{Numbers, numbers_at, on_one, whole}
use Rattle.net_extractor.proofs.ExtractLaws.{bound_there}

-- the label binds the shape at a place, which has the number
pub record IsNumberedUnder (connections : List Connect) (shapes : List Shape) (label : Anchor) (old : Numbering) (number : ℕ) (new : Numbering) : Type 0 where
  pub place : ℕ
  pub bound : IsBoundAt shapes label place
  pub numbers : Numbers connections shapes old place number new

abbrev pub IsNetUnder : List Connect → List Shape → Anchor → Numbering → Option ℕ → Numbering → Type 0
IsNetUnder connections shapes label old None new = IsUnbound shapes label old new
IsNetUnder connections shapes label old (Some number) new = IsNumberedUnder connections shapes label old number new

pub net_under : (connections : List Connect) (shapes : List Shape) (label : Anchor) (old new : Numbering) (net : Option ℕ) → IsNumbering connections shapes old → IsNetOf shapes label old net new → IsNetUnder connections shapes label old net new
net_under connections shapes label old new None n h = h
net_under connections shapes label old new (Some number) n h = record { place = h.place; bound = h.bound; numbers = numbers_at connections shapes old h.place number new n h.number_at }

-- the entry's label binds no shape
pub record IsFree (shapes : List Shape) (e : PlainNetLabel) : Type 0 where
  pub none : BindsNone shapes (anchor_of e)
  pub is : e.net ≡ None

-- the entry's label binds the shape at a place, and has its number
pub record IsHeld (shapes : List Shape) (numbering : Numbering) (e : PlainNetLabel) : Type 0 where
  pub place : ℕ
  pub number : ℕ
  pub bound : IsBoundAt shapes (anchor_of e) place
  pub is : e.net ≡ Some number
  pub on : NetHasNumber numbering place number

-- what stands in the entries so far, of the first labels
pub record AreEntries (connections : List Connect) (shapes : List Shape) (labels : List Label) (i : ℕ) (numbering : Numbering) (entries : List PlainNetLabel) : Type 0 where
  pub numbered : IsNumbering connections shapes numbering
  pub few : numbering.next ≤ i
  pub each : map label_of entries ≡ map plain_label (take i labels)
  pub right : (e : PlainNetLabel) → Contains entries e → IsFree shapes e ⊎ IsHeld shapes numbering e
  pub order : (more : List (Option ℕ)) → AppearFrom numbering.next more → AppearFrom 0 (map (λ (e : PlainNetLabel). e.net) entries ++ more)

net_step : (net : Option ℕ) (entries : List PlainNetLabel) (label : PlainLabel) (more : List (Option ℕ)) → map (λ (e : PlainNetLabel). e.net) (entries ++ entry label net ∷ []) ++ more ≡ map (λ (e : PlainNetLabel). e.net) entries ++ (net ∷ more)
net_step net entries label more =
    ap (λ (ns : List (Option ℕ)). ns ++ more) (map-append (λ (e : PlainNetLabel). e.net) entries (entry label net ∷ [])) ∙ append_assoc (map (λ (e : PlainNetLabel). e.net) entries) (net ∷ []) more

appear_step : (connections : List Connect) (shapes : List Shape) (label : Anchor) (old new : Numbering) (net : Option ℕ) (more : List (Option ℕ)) → IsNetUnder connections shapes label old net new → AppearFrom new.next more → AppearFrom old.next (net ∷ more)
appear_step connections shapes label old new None more h a = subst (λ (n : Numbering). AppearFrom n.next more) h.same a
appear_step connections shapes label old new (Some number) more h a = elim h.numbers.next [
  | inl seen ↦ inl (seen.0, subst (λ (n : ℕ). AppearFrom n more) seen.1 a)
  | inr fresh ↦ inr (fresh.0, subst (λ (n : ℕ). AppearFrom n more) fresh.1 a)
]

kept_right : (shapes : List Shape) (old new : Numbering) (e : PlainNetLabel) → ((k m : ℕ) → NetHasNumber old k m → NetHasNumber new k m) → IsFree shapes e ⊎ IsHeld shapes old e → IsFree shapes e ⊎ IsHeld shapes new e
kept_right shapes old new e kept (inl f) = inl f
kept_right shapes old new e kept (inr h) = inr (record { place = h.place; number = h.number; bound = h.bound; is = h.is; on = kept h.place h.number h.on })

kept_numbers : (connections : List Connect) (shapes : List Shape) (label : Anchor) (old new : Numbering) (net : Option ℕ) → IsNetUnder connections shapes label old net new → (k m : ℕ) → NetHasNumber old k m → NetHasNumber new k m
kept_numbers connections shapes label old new None h k m on = subst (λ (n : Numbering). NetHasNumber n k m) (sym h.same) on
kept_numbers connections shapes label old new (Some number) h k m on = h.numbers.kept k m on

numbered_step : (connections : List Connect) (shapes : List Shape) (label : Anchor) (old new : Numbering) (net : Option ℕ) → IsNetUnder connections shapes label old net new → IsNumbering connections shapes old → IsNumbering connections shapes new
numbered_step connections shapes label old new None h n = subst (IsNumbering connections shapes) (sym h.same) n
numbered_step connections shapes label old new (Some number) h n = h.numbers.numbered

few_step : (connections : List Connect) (shapes : List Shape) (label : Anchor) (old new : Numbering) (net : Option ℕ) (i : ℕ) → IsNetUnder connections shapes label old net new → old.next ≤ i → new.next ≤ i + 1
few_step connections shapes label old new None i h le = let e = ap (λ (n : Numbering). n.next) h.same in omega (arith, e, le)
few_step connections shapes label old new (Some number) i h le = elim h.numbers.next [
  | inl seen ↦ let e = seen.1 in omega (arith, e, le)
  | inr fresh ↦ let e = fresh.1 in omega (arith, e, le)
]

right_step : (connections : List Connect) (shapes : List Shape) (label : PlainLabel) (old new : Numbering) (net : Option ℕ) → IsNetUnder connections shapes (anchor_of (entry label net)) old net new
    → IsFree shapes (entry label net) ⊎ IsHeld shapes new (entry label net)
right_step connections shapes label old new None h = inl (record { none = h.none; is = refl })
right_step connections shapes label old new (Some number) h = inr (record { place = h.place; number = number; bound = h.bound; is = refl; on = h.numbers.here })

pub entries_begin : (connections : List Connect) (shapes : List Shape) (labels : List Label) (numbering : Numbering) (entries : List PlainNetLabel) → IsNumbering connections shapes numbering → numbering.next ≡ 0 → entries ≡ [] → AreEntries connections shapes labels 0 numbering entries
entries_begin connections shapes labels numbering entries n zeroth none =
    subst (AreEntries connections shapes labels 0 numbering) (sym none) (record {
      numbered = n;
      few = omega (arith, zeroth);
      each = refl;
      right = λ e h. let lt : h.0 < 0 = h.1 in absurd (omega arith);
      order = λ more a. subst (λ (k : ℕ). AppearFrom k more) zeroth a;
    })

pub entries_more : (connections : List Connect) (shapes : List Shape) (labels : List Label) (i : ℕ) (label : Label) (net : Option ℕ) (old new : Numbering) (entries more : List PlainNetLabel)
    → i < length labels → label ≡ get_or labels i label → IsNetUnder connections shapes (anchor_of (entry (plain_label label) net)) old net new → more ≡ entries ++ entry (plain_label label) net ∷ []
    → AreEntries connections shapes labels i old entries → AreEntries connections shapes labels (i + 1) new more
entries_more connections shapes labels i label net old new entries more lt is h grown a =
    let anchor = anchor_of (entry (plain_label label) net) in
    subst (AreEntries connections shapes labels (i + 1) new) (sym grown) (record {
      numbered = numbered_step connections shapes anchor old new net h a.numbered;
      few = few_step connections shapes anchor old new net i h a.few;
      each =
          map-append label_of entries (entry (plain_label label) net ∷ [])
          ∙ (ap (λ (ls : List PlainLabel). ls ++ plain_label label ∷ []) a.each
          ∙ (sym (map-append plain_label (take i labels) (label ∷ []))
          ∙ ap (map plain_label) (ap (λ (l : Label). take i labels ++ l ∷ []) is ∙ sym (take_more labels i label lt))));
      right = λ e c. elim (Contains-push_cases entries (entry (plain_label label) net) e c) [
        | inl earlier ↦ kept_right shapes old new e (kept_numbers connections shapes anchor old new net h) (a.right e earlier)
        | inr same ↦ subst (λ (f : PlainNetLabel). IsFree shapes f ⊎ IsHeld shapes new f) same (right_step connections shapes (plain_label label) old new net h)
      ];
      order = λ rest b. subst (AppearFrom 0) (sym (net_step net entries (plain_label label) rest)) (a.order (net ∷ rest) (appear_step connections shapes anchor old new net rest h b));
    })

-- who binds a shape is held
held : (shapes : List Shape) (numbering : Numbering) (e : PlainNetLabel) (s : Shape) → IsFree shapes e ⊎ IsHeld shapes numbering e → Binds shapes (anchor_of e) s → IsHeld shapes numbering e
held shapes numbering e s (inl f) b = absurd (f.none s b.listed b.under)
held shapes numbering e s (inr h) b = h

free_exactly : (shapes : List Shape) (numbering : Numbering) (e : PlainNetLabel) → IsFree shapes e ⊎ IsHeld shapes numbering e → (e.net ≡ None) ↔ BindsNone shapes (anchor_of e)
free_exactly shapes numbering e (inl f) = (λ _. f.none, λ _. f.is)
free_exactly shapes numbering e (inr h) = (
  λ n. let clash : ◌≡◌ {A = Option ℕ} None (Some h.number) = sym n ∙ h.is in absurd cc,
  λ n. absurd (n h.bound.shape (contained_at shapes h.place h.bound.shape h.bound.there) h.bound.under),
)

one_exactly : (connections : List Connect) (shapes : List Shape) (numbering : Numbering) (e f : PlainNetLabel) (s t : Shape) → IsStrictlySortedBy shape_order shapes → IsNumbering connections shapes numbering
    → IsHeld shapes numbering e → IsHeld shapes numbering f → Binds shapes (anchor_of e) s → Binds shapes (anchor_of f) t → (e.net ≡ f.net) ↔ AreOnOneNet connections shapes s t
one_exactly connections shapes numbering e f s t rises n a b binds_s binds_t =
    let at_s = bound_there shapes (anchor_of e) a.place s rises a.bound binds_s in
    let at_t = bound_there shapes (anchor_of f) b.place t rises b.bound binds_t in
    let same = whole connections shapes numbering a.place b.place a.number s t n at_s at_t a.on in (
      λ one.
          let numbers : ◌≡◌ {A = Option ℕ} (Some b.number) (Some a.number) = sym b.is ∙ (sym one ∙ a.is) in
          let equal : b.number ≡ a.number = cc in
          same.0 (subst (NetHasNumber numbering b.place) equal b.on),
      λ net.
          let there : NetHasNumber numbering b.place a.number = same.1 net in
          let equal = on_one numbering b.place a.number b.number there b.on in
          a.is ∙ (ap (λ (k : ℕ). Some k) equal ∙ sym b.is),
    )

pub entries_all : (connections : List Connect) (shapes : List Shape) (labels : List Label) (i : ℕ) (numbering : Numbering) (entries : List PlainNetLabel) → IsStrictlySortedBy shape_order shapes → length labels ≤ i
    → AreEntries connections shapes labels i numbering entries → AreNetsUnder connections shapes (map plain_label labels) entries
entries_all connections shapes labels i numbering entries rises le a = record {
  each = a.each ∙ ap (map plain_label) (take_all i labels le);
  unbound = λ e h. free_exactly shapes numbering e (a.right e h);
  one = λ e f s t in_e in_f binds_s binds_t.
      one_exactly connections shapes numbering e f s t rises a.numbered (held shapes numbering e s (a.right e in_e) binds_s) (held shapes numbering f t (a.right f in_f) binds_t) binds_s binds_t;
  numbered = subst (AppearFrom 0) (append-nil (map (λ (e : PlainNetLabel). e.net) entries)) (a.order [] tt);
}
