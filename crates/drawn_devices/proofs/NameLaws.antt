-- The names that labels give to nets.
use Rattle.std.proofs.Common.{◌≡◌, ◌⊎◌, inl, inr, ◌↔◌, ℕ, ◌+◌, List, [], ◌∷◌, ◌++◌, map, take, Option, None, Some, refl, sym, ap, subst, ◌∙◌, arith}
use Rattle.std.specs.Prelude.{Contains, slice_get}
use Rattle.std.specs.declared.cmp.Ordering.TheVariants.{Less}
use Rattle.std.proofs.lemmas.Bool.{cases_lt}
use Rattle.std.proofs.lemmas.List.Elements.{Contains-append_left, Contains-push, Contains-push_cases}
use Rattle.std.proofs.lemmas.List.{map-append, take_more}
use Rattle.std.proofs.lemmas.Option.{get_or_from_slice_get, same_Some, slice_get_within}
use Rattle.or_geom.specs.declared.shape.Shape.{Shape}
use Rattle.or_geom.specs.ShapeOrder.{shape_order}
use Rattle.or_geom.proofs.ListLaws.{contained_at, contains_none, contains_cases, contains_first, one_at}
use Rattle.or_geom.proofs.OneListLaws.{not_both}
use Rattle.or_geom.proofs.ShapeOrderLaws.{shape_total}
use Rattle.cell_hierarchy.specs.declared.flat.Label.{Label}
use Rattle.cell_hierarchy.specs.Plain.{plain_label}
use Rattle.element_drawing.specs.PlainLabel.{PlainLabel}
use Rattle.tech_rules.specs.declared.tech.Device.{Device}
use Rattle.tech_rules.specs.declared.tech.Tech.{Tech}
use Rattle.label_binding.specs.declared.anchor.Anchor.{Anchor}
use Rattle.label_binding.specs.Binding.{IsUnder, Binds, BindsNone}
use Rattle.label_binding.specs.Bound.{IsBoundAt}
use Rattle.label_binding.specs.LowerCase.{in_lower_case}
use Rattle.net_extractor.proofs.ExtractLaws.{bound_there, earlier_less}
use Rattle.label_binding.proofs.PlaceLaws.{at_contained}
use Rattle.drawn_devices.specs.declared.cut_cell.CutCell.{CutCell}
use Rattle.drawn_devices.specs.declared.drawn.NetName.{NetName}
use Rattle.drawn_devices.specs.CutCell.{IsCutCell}
use Rattle.drawn_devices.specs.CutShapes.{AreCutShapes}
use Rattle.drawn_devices.specs.Diffusion.{IsActive}
use Rattle.drawn_devices.specs.Drawn.{GivesName, IsNetName}
use Rattle.label_binding.specs.BoundPlaces.{label_anchor}
use Rattle.drawn_devices.specs.Nets.{Member, Drawn, IsMember}
use Rattle.drawn_devices.specs.Numbers.{AreNumbersIn}

one_label : (label other : PlainLabel) → Contains (label ∷ []) other → other ≡ label
one_label label other h = elim (contains_cases label [] other h) [ inl is ↦ is | inr none ↦ absurd (contains_none other none) ]

-- a label below an instance, or on an active layer, gives no name
pub no_name : (tech : Tech) (shapes : List Shape) (number : Member → ℕ) (label : PlainLabel) → ((label.path ≡ []) → (IsActive tech.devices label.layer → ⊥) → ⊥) → GivesName tech shapes number label None
no_name tech shapes number label never entry is =
    let same = one_label label is.named.label is.named.listed in
    never (subst (λ (l : PlainLabel). l.path ≡ []) same is.named.own) (subst (λ (l : PlainLabel). IsActive tech.devices l.layer → ⊥) same is.named.drawn)

module _ (devices : List Device) (shapes cut : List Shape) (are : AreCutShapes devices shapes cut) (label : Anchor) (off : IsActive devices label.layer → ⊥) where
  away : (s : Shape) → IsUnder label s → IsActive devices s.layer → ⊥
  away s under active = off (subst (IsActive devices) under.on active)

  binds_cut : (s : Shape) → Binds shapes label s → Binds cut label s
  binds_cut s b = record {
    listed = (are.drawn s (away s b.under)).1 b.listed;
    under = b.under;
    first = λ other listed under less. b.first other ((are.drawn other (away other under)).0 listed) under less;
  }

  binds_shapes : (s : Shape) → Binds cut label s → Binds shapes label s
  binds_shapes s b = record {
    listed = (are.drawn s (away s b.under)).0 b.listed;
    under = b.under;
    first = λ other listed under less. b.first other ((are.drawn other (away other under)).1 listed) under less;
  }

  binds_none : BindsNone cut label → (s : Shape) → Binds shapes label s → ⊥
  binds_none none s b = none s (binds_cut s b).listed b.under

  -- what stands at the first index under the label is what it binds
  bound_binds : (index : ℕ) (b : IsBoundAt cut label index) → Binds cut label b.shape
  bound_binds index b = record {
    listed = contained_at cut index b.shape b.there;
    under = b.under;
    first = λ other listed under less.
        let j = listed.0 in
        let at = at_contained cut other listed in
        elim (cases_lt j index) [
          | inl before ↦ b.before j other before at under
          | inr ge ↦ elim (cases_lt index j) [
            | inl behind ↦ not_both shape_order shape_total other b.shape less (earlier_less shape_order cut index j b.shape other are.rise behind b.there at)
            | inr le ↦
                let e : j ≡ index = omega (arith, ge, le) in
                let same : other ≡ b.shape = one_at cut index other b.shape (subst (λ (k : ℕ). slice_get cut k ≡ Some other) e at) b.there in
                let self : shape_order other other ≡ Less = subst (λ (s : Shape). shape_order other s ≡ Less) (sym same) less in
                not_both shape_order shape_total other other self self
          ]
        ];
  }

-- an unbound label gives no name
pub unbound_name : (cell : CutCell) (number : Member → ℕ) (label : PlainLabel) → IsCutCell cell → BindsNone cell.bins (label_anchor label) → GivesName cell.tech.now cell.shapes.now number label None
unbound_name cell number label cut none entry is =
    let same = one_label label is.named.label is.named.listed in
    let off = subst (λ (l : PlainLabel). IsActive cell.tech.now.devices l.layer → ⊥) same is.named.drawn in
    let binds = subst (λ (l : PlainLabel). Binds cell.shapes.now (label_anchor l) is.shape) same is.named.binds in
    binds_none cell.tech.now.devices cell.shapes.now cell.bins cut.are (label_anchor label) off none is.shape binds

same_entry : (a b : NetName) → a.name ≡ b.name → a.net ≡ b.net → a ≡ b
same_entry a b name net = λ i. record { name = name i; net = net i }

-- a bound label of the cell itself gives its name to the net of the shape
pub bound_name : (cell : CutCell) (number : Member → ℕ) (label : PlainLabel) (index net : ℕ) (given : NetName) → IsCutCell cell → AreNumbersIn cell number → label.path ≡ [] → (IsActive cell.tech.now.devices label.layer → ⊥) → IsBoundAt cell.bins (label_anchor label) index
    → slice_get cell.nets index ≡ Some net → given.name ≡ in_lower_case label.name → given.net ≡ net → GivesName cell.tech.now cell.shapes.now number label (Some given)
bound_name cell number label index net given cut are own off bound has name is_net entry =
    let devices = cell.tech.now.devices in
    let shapes = cell.shapes.now in
    let binds = bound_binds devices shapes cell.bins cut.are (label_anchor label) off index bound in
    let drawn = binds_shapes devices shapes cell.bins cut.are (label_anchor label) off bound.shape binds in
    let of : IsMember cell.tech.now shapes (Drawn bound.shape) = (drawn.listed, λ active. off (subst (IsActive devices) bound.under.on active)) in
    let number_is : net ≡ number (Drawn bound.shape) = same_Some net (number (Drawn bound.shape)) (sym has ∙ are (Drawn bound.shape) index bound.shape of bound.there refl) in (
      λ is.
          let same = one_label label is.named.label is.named.listed in
          let other = subst (λ (l : PlainLabel). Binds shapes (label_anchor l) is.shape) same is.named.binds in
          let there = bound_there cell.bins (label_anchor label) index is.shape cut.are.rise bound (binds_cut devices shapes cell.bins cut.are (label_anchor label) off is.shape other) in
          let one : is.shape ≡ bound.shape = one_at cell.bins index is.shape bound.shape there bound.there in
          same_entry entry given (is.named.is ∙ (ap (λ (l : PlainLabel). in_lower_case l.name) same ∙ sym name)) (is.net ∙ (ap (λ (s : Shape). number (Drawn s)) one ∙ (sym number_is ∙ sym is_net))),
      λ same. subst (IsNetName cell.tech.now shapes (label ∷ []) number) (sym same) (record {
        shape = bound.shape;
        named = record { label = label; listed = contains_first label []; own = own; drawn = off; binds = drawn; is = name };
        net = is_net ∙ number_is;
      }),
    )

-- the names that labels give
abbrev pub AreNamesOf : CutCell → List PlainLabel → List NetName → Type 0
AreNamesOf cell labels names = (number : Member → ℕ) → AreNumbersIn cell number → (entry : NetName) → Contains names entry ↔ IsNetName cell.tech.now cell.shapes.now labels number entry

-- what one label gives
abbrev pub IsGivenBy : CutCell → PlainLabel → Option NetName → Type 0
IsGivenBy cell label given = (number : Member → ℕ) → AreNumbersIn cell number → GivesName cell.tech.now cell.shapes.now number label given

pub no_names : (cell : CutCell) (names : List NetName) → names ≡ [] → AreNamesOf cell [] names
no_names cell names none number are entry = (
  λ h. absurd (contains_none entry (subst (λ (l : List NetName). Contains l entry) none h)),
  λ is. absurd (contains_none is.named.label is.named.listed),
)

module _ (cell : CutCell) (number : Member → ℕ) where
  abbrev Named : List PlainLabel → NetName → Type 0
  Named labels entry = IsNetName cell.tech.now cell.shapes.now labels number entry

  with_labels : (few many : List PlainLabel) (entry : NetName) → ((label : PlainLabel) → Contains few label → Contains many label) → Named few entry → Named many entry
  with_labels few many entry more is = record {
    shape = is.shape;
    named = record { label = is.named.label; listed = more is.named.label is.named.listed; own = is.named.own; drawn = is.named.drawn; binds = is.named.binds; is = is.named.is };
    net = is.net;
  }

  by_label : (labels : List PlainLabel) (label : PlainLabel) (entry : NetName) → Named (labels ++ label ∷ []) entry → Named labels entry ⊎ Named (label ∷ []) entry
  by_label labels label entry is = elim (Contains-push_cases labels label is.named.label is.named.listed) [
    | inl earlier ↦ inl (record { shape = is.shape; named = record { label = is.named.label; listed = earlier; own = is.named.own; drawn = is.named.drawn; binds = is.named.binds; is = is.named.is }; net = is.net })
    | inr same ↦
        let listed : Contains (label ∷ []) is.named.label = subst (Contains (label ∷ [])) same (contains_first label []) in
        inr (record { shape = is.shape; named = record { label = is.named.label; listed = listed; own = is.named.own; drawn = is.named.drawn; binds = is.named.binds; is = is.named.is }; net = is.net })
  ]

  last_label : (labels : List PlainLabel) (label : PlainLabel) (entry : NetName) → Named (label ∷ []) entry → Named (labels ++ label ∷ []) entry
  last_label labels label entry is = with_labels (label ∷ []) (labels ++ label ∷ []) entry (λ other h. subst (Contains (labels ++ label ∷ [])) (sym (one_label label other h)) (Contains-push labels label)) is

  first_labels : (labels : List PlainLabel) (label : PlainLabel) (entry : NetName) → Named labels entry → Named (labels ++ label ∷ []) entry
  first_labels labels label entry is = with_labels labels (labels ++ label ∷ []) entry (λ other h. Contains-append_left labels (label ∷ []) other h) is

-- a label more that gives none
pub names_skip : (cell : CutCell) (labels : List PlainLabel) (label : PlainLabel) (names : List NetName) → IsGivenBy cell label None → AreNamesOf cell labels names → AreNamesOf cell (labels ++ label ∷ []) names
names_skip cell labels label names none a number are entry = (
  λ h. first_labels cell number labels label entry ((a number are entry).0 h),
  λ is. elim (by_label cell number labels label entry is) [ inl earlier ↦ (a number are entry).1 earlier | inr own ↦ absurd (none number are entry own) ],
)

-- and one that gives a name
pub names_more : (cell : CutCell) (labels : List PlainLabel) (label : PlainLabel) (names more : List NetName) (given : NetName) → more ≡ names ++ given ∷ [] → IsGivenBy cell label (Some given) → AreNamesOf cell labels names → AreNamesOf cell (labels ++ label ∷ []) more
names_more cell labels label names more given grown gives a number are entry = (
  λ h. elim (Contains-push_cases names given entry (subst (λ (l : List NetName). Contains l entry) grown h)) [
    | inl earlier ↦ first_labels cell number labels label entry ((a number are entry).0 earlier)
    | inr same ↦ last_label cell number labels label entry ((gives number are entry).1 (sym same))
  ],
  λ is. subst (λ (l : List NetName). Contains l entry) (sym grown) (elim (by_label cell number labels label entry is) [
    | inl earlier ↦ Contains-append_left names (given ∷ []) entry ((a number are entry).1 earlier)
    | inr own ↦ subst (Contains (names ++ given ∷ [])) (sym ((gives number are entry).0 own)) (Contains-push names given)
  ]),
)

-- one label more
pub labels_more : (labels : List Label) (i : ℕ) (label : Label) → slice_get labels i ≡ Some label → map plain_label (take (i + 1) labels) ≡ map plain_label (take i labels) ++ plain_label label ∷ []
labels_more labels i label at =
    let lt = slice_get_within labels i label at in
    ap (map plain_label) (take_more labels i label lt ∙ ap (λ (l : Label). take i labels ++ l ∷ []) (get_or_from_slice_get labels i label label at)) ∙ map-append plain_label (take i labels) (label ∷ [])
