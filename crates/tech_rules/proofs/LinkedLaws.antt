-- Things to which lists lead, each touching the next.
use Rattle.std.proofs.Common.{◌≡◌, ◌⊎◌, inl, inr, List, [], ◌∷◌, ◌++◌, refl, sym, ap, subst}
use Rattle.tech_rules.specs.Linked.{LeadsBy, AreLinked}

-- one list after another
pub leads_on : {X : Type 0} (P : X → Type 0) (Touches : X → X → Type 0) (a b c : X) (first second : List X) → LeadsBy P Touches a first b → LeadsBy P Touches b second c → LeadsBy P Touches a (first ++ second) c
leads_on {X} P Touches a b c [] second one two = subst (λ (x : X). LeadsBy P Touches x second c) (sym one) two
leads_on P Touches a b c (next ∷ rest) second one two = (one.0, one.1, leads_on P Touches next b c rest second one.2 two)

pub linked_itself : {X : Type 0} (P : X → Type 0) (Touches : X → X → Type 0) (a : X) → AreLinked P Touches a a
linked_itself P Touches a = record { path = []; leads = refl }

pub linked_on : {X : Type 0} (P : X → Type 0) (Touches : X → X → Type 0) (a b c : X) → AreLinked P Touches a b → AreLinked P Touches b c → AreLinked P Touches a c
linked_on P Touches a b c one two = record { path = one.path ++ two.path; leads = leads_on P Touches a b c one.path two.path one.leads two.leads }

-- one that touches another leads to it
pub linked_next : {X : Type 0} (P : X → Type 0) (Touches : X → X → Type 0) (a b : X) → P b → Touches a b → AreLinked P Touches a b
linked_next P Touches a b has touch = record { path = b ∷ []; leads = (has, touch, refl) }

-- one more, which the last touches
pub linked_further : {X : Type 0} (P : X → Type 0) (Touches : X → X → Type 0) (a b c : X) → AreLinked P Touches a b → P c → Touches b c → AreLinked P Touches a c
linked_further P Touches a b c linked has touch = linked_on P Touches a b c linked (linked_next P Touches b c has touch)

leads_back : {X : Type 0} (P : X → Type 0) (Touches : X → X → Type 0) (turned : (x y : X) → Touches x y → Touches y x) (a b : X) (path : List X) → P a → LeadsBy P Touches a path b → AreLinked P Touches b a
leads_back P Touches turned a b [] has leads = record { path = []; leads = sym leads }
leads_back P Touches turned a b (next ∷ rest) has leads = linked_further P Touches b next a (leads_back P Touches turned next b rest leads.0 leads.2) has (turned a next leads.1)

-- where what touches is touched, a list leads back
pub linked_back : {X : Type 0} (P : X → Type 0) (Touches : X → X → Type 0) (turned : (x y : X) → Touches x y → Touches y x) (a b : X) → P a → AreLinked P Touches a b → AreLinked P Touches b a
linked_back P Touches turned a b has linked = leads_back P Touches turned a b linked.path has linked.leads

ends : {X : Type 0} (P : X → Type 0) (Touches : X → X → Type 0) (a b : X) (path : List X) → P a → LeadsBy P Touches a path b → P b
ends {X} P Touches a b [] has leads = subst P leads has
ends P Touches a b (next ∷ rest) has leads = ends P Touches next b rest leads.0 leads.2

-- what is led to from one that has P has it too
pub linked_end : {X : Type 0} (P : X → Type 0) (Touches : X → X → Type 0) (a b : X) → P a → AreLinked P Touches a b → P b
linked_end P Touches a b has linked = ends P Touches a b linked.path has linked.leads

carried : {X : Type 0} (P : X → Type 0) (Touches : X → X → Type 0) (Q : X → Type 0) (step : (x y : X) → Q x → P y → Touches x y → Q y) (a b : X) (path : List X) → Q a → LeadsBy P Touches a path b → Q b
carried P Touches Q step a b [] has leads = subst Q leads has
carried P Touches Q step a b (next ∷ rest) has leads = carried P Touches Q step next b rest (step a next has leads.0 leads.1) leads.2

-- what each step keeps holds at the end
pub linked_carries : {X : Type 0} (P : X → Type 0) (Touches : X → X → Type 0) (Q : X → Type 0) (step : (x y : X) → Q x → P y → Touches x y → Q y) (a b : X) → Q a → AreLinked P Touches a b → Q b
linked_carries P Touches Q step a b has linked = carried P Touches Q step a b linked.path has linked.leads

-- Things that lie in others, finer ones in coarser ones: each of the finer lies in one; coarser ones are linked where what
-- lies in them is one thing or touches; of coarser ones that touch, two that lie in them are one thing or touch; and what
-- lies in one of the coarser is linked. Then two of the finer are linked exactly where those are in which they lie.
module _ {X : Type 0} {Y : Type 0} (P : X → Type 0) (T : X → X → Type 0) (Q : Y → Type 0) (U : Y → Y → Type 0) (In : X → Y → Type 0) where
  pub record AreRefined : Type 0 where
    pub some : (x : X) → P x → (y : Y) × Q y × In x y
    pub meet : (x z : X) (y w : Y) → P x → P z → Q y → Q w → In x y → In z w → (x ≡ z) ⊎ T x z → AreLinked Q U y w
    pub split : (y w : Y) → Q y → Q w → U y w → (x : X) × (z : X) × P x × P z × In x y × In z w × ((x ≡ z) ⊎ T x z)
    pub whole : (x z : X) (y : Y) → P x → P z → Q y → In x y → In z y → AreLinked P T x z

module _ {X : Type 0} {Y : Type 0} (P : X → Type 0) (T : X → X → Type 0) (Q : Y → Type 0) (U : Y → Y → Type 0) (In : X → Y → Type 0) (r : AreRefined P T Q U In) where
  record IsReachedIn (y : Y) (v : X) : Type 0 where
    of : P v
    net : (w : Y) → Q w → In v w → AreLinked Q U y w

  reached_on : (y : Y) (v z : X) → IsReachedIn y v → P z → T v z → IsReachedIn y z
  reached_on y v z at has touch = record {
    of = has;
    net = λ w listed inside.
        let u = r.some v at.of in
        linked_on Q U y u.0 w (at.net u.0 u.1 u.2) (r.meet v z u.0 w at.of has u.1 listed u.2 inside (inr touch));
  }

  pub coarser_linked : (x z : X) (y w : Y) → P x → Q y → Q w → In x y → In z w → AreLinked P T x z → AreLinked Q U y w
  coarser_linked x z y w has listed other inside there linked =
      let end = linked_carries P T (IsReachedIn y) (λ v v'. reached_on y v v') x z (record { of = has; net = λ u at in_u. r.meet x x y u has has listed at inside in_u (inl refl) }) linked in
      end.net w other there

  record IsReachedOver (x : X) (u : Y) : Type 0 where
    of : Q u
    net : (z : X) → P z → In z u → AreLinked P T x z

  step_to : (x v z : X) → P z → AreLinked P T x v → (v ≡ z) ⊎ T v z → AreLinked P T x z
  step_to x v z has linked (inl same) = subst (AreLinked P T x) same linked
  step_to x v z has linked (inr touch) = linked_further P T x v z linked has touch

  over_on : (x : X) (u w : Y) → IsReachedOver x u → Q w → U u w → IsReachedOver x w
  over_on x u w at listed touch = record {
    of = listed;
    net = λ z has inside.
        let s = r.split u w at.of listed touch in
        linked_on P T x s.1 z (step_to x s.0 s.1 s.3 (at.net s.0 s.2 s.4) s.6) (r.whole s.1 z w s.3 has listed s.5 inside);
  }

  pub finer_linked : (x z : X) (y w : Y) → P x → P z → Q y → In x y → In z w → AreLinked Q U y w → AreLinked P T x z
  finer_linked x z y w has other listed inside there linked =
      let end = linked_carries Q U (IsReachedOver x) (λ u u'. over_on x u u') y w (record { of = listed; net = λ v at in_v. r.whole x v y has at listed inside in_v }) linked in
      end.net z other there

mapped : {X : Type 0} {Z : Type 0} (P : X → Type 0) (T : X → X → Type 0) (P' : Z → Type 0) (T' : Z → Z → Type 0) (f : X → Z) (has : (x : X) → P x → P' (f x)) (touch : (x y : X) → T x y → T' (f x) (f y)) (a b : X) (path : List X) → LeadsBy P T a path b
    → AreLinked P' T' (f a) (f b)
mapped P T P' T' f has touch a b [] leads = record { path = []; leads = ap f leads }
mapped P T P' T' f has touch a b (next ∷ rest) leads = linked_on P' T' (f a) (f next) (f b) (linked_next P' T' (f a) (f next) (has next leads.0) (touch a next leads.1)) (mapped P T P' T' f has touch next b rest leads.2)

-- what a function keeps is linked at its values too
pub linked_map : {X : Type 0} {Z : Type 0} (P : X → Type 0) (T : X → X → Type 0) (P' : Z → Type 0) (T' : Z → Z → Type 0) (f : X → Z) (has : (x : X) → P x → P' (f x)) (touch : (x y : X) → T x y → T' (f x) (f y)) (a b : X) → AreLinked P T a b
    → AreLinked P' T' (f a) (f b)
linked_map P T P' T' f has touch a b linked = mapped P T P' T' f has touch a b linked.path linked.leads
