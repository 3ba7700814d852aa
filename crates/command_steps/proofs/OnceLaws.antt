-- At each step one thing follows from the bytes, or one refusal, and not both.
use Rattle.std.proofs.Common.{◌≡◌, ◌≢◌, inl, inr, ℕ, ◌<◌, List, length, Option, Some, None, Result, Ok, Err, sym, ap, subst, ◌∙◌, arith}
use Rattle.std.proofs.lemmas.Option.{same_Some}
use Rattle.or_host.specs.Files.{Files}
use Rattle.gds_library.specs.declared.fault.GdsFault.{GdsFault}
use Rattle.gds_library.specs.declared.fault.GdsFault.TheVariants as gds
use Rattle.tech_rules.specs.Technology.{technology}
use Rattle.reply_lines.specs.declared.refusal.Refusal.{Refusal}
use Rattle.reply_lines.specs.declared.refusal.Refusal.TheVariants as refusal_of
use Rattle.command_steps.specs.File.{limit, IsReadable, IsFile, IsTechnology, IsTechnologyFile}
use Rattle.command_steps.specs.Once.{IsLow, IsOnce}
use Rattle.command_steps.specs.Outcome.{WithoutRefusal, ValueOrFault, Then}

pub one_value : {X : Type 0} (P : Result X Refusal → Type 0) → IsOnce P → (x y : X) → P (Ok x) → P (Ok y) → x ≡ y
one_value {X} P once x y p q = let both : ◌≡◌ {A = Result X Refusal} (Ok x) (Ok y) = once (Ok x) (Ok y) tt tt p q in cc

pub no_value : {X : Type 0} (P : Result X Refusal → Type 0) → IsOnce P → (x : X) (f : Refusal) → P (Ok x) → IsLow f → P (Err f) → ⊥
no_value {X} P once x f p low q = let both : ◌≡◌ {A = Result X Refusal} (Ok x) (Err f) = once (Ok x) (Err f) tt low p q in cc

pub one_refusal : {X : Type 0} (P : Result X Refusal → Type 0) → IsOnce P → (e f : Refusal) → IsLow e → IsLow f → P (Err e) → P (Err f) → e ≡ f
one_refusal {X} P once e f s t p q = let both : ◌≡◌ {A = Result X Refusal} (Err e) (Err f) = once (Err e) (Err f) s t p q in cc

-- one step after another
pub on_then : {X Y : Type 0} (P : Result X Refusal → Type 0) (Q : X → Result Y Refusal → Type 0) → IsOnce P → ((x : X) → P (Ok x) → IsOnce (Q x)) → IsOnce (Then P Q)
on_then {X} {Y} P Q once each (Ok y) (Ok z) s t p q = each p.0 p.1 (Ok y) (Ok z) s t p.2 (subst (λ (x : X). Q x (Ok z)) (one_value P once q.0 p.0 q.1 p.1) q.2)
on_then {X} {Y} P Q once each (Ok y) (Err f) s t p (inl q) = absurd (no_value P once p.0 f p.1 t q)
on_then {X} {Y} P Q once each (Ok y) (Err f) s t p (inr q) = each p.0 p.1 (Ok y) (Err f) s t p.2 (subst (λ (x : X). Q x (Err f)) (one_value P once q.0 p.0 q.1 p.1) q.2)
on_then {X} {Y} P Q once each (Err e) (Ok z) s t (inl p) q = absurd (no_value P once q.0 e q.1 s p)
on_then {X} {Y} P Q once each (Err e) (Ok z) s t (inr p) q = each p.0 p.1 (Err e) (Ok z) s t p.2 (subst (λ (x : X). Q x (Ok z)) (one_value P once q.0 p.0 q.1 p.1) q.2)
on_then {X} {Y} P Q once each (Err e) (Err f) s t (inl p) (inl q) = ap (λ (r : Refusal). Err r) (one_refusal P once e f s t p q)
on_then {X} {Y} P Q once each (Err e) (Err f) s t (inl p) (inr q) = absurd (no_value P once q.0 e q.1 s p)
on_then {X} {Y} P Q once each (Err e) (Err f) s t (inr p) (inl q) = absurd (no_value P once p.0 f p.1 t q)
on_then {X} {Y} P Q once each (Err e) (Err f) s t (inr p) (inr q) = each p.0 p.1 (Err e) (Err f) s t p.2 (subst (λ (x : X). Q x (Err f)) (one_value P once q.0 p.0 q.1 p.1) q.2)

pub on_gives : {X : Type 0} (Q : X → Type 0) → ((x y : X) → Q x → Q y → x ≡ y) → IsOnce (WithoutRefusal Q)
on_gives {X} Q one (Ok x) (Ok y) s t p q = ap (λ (z : X). Ok z) (one x y p q)
on_gives {X} Q one (Ok x) (Err f) s t p q = absurd q
on_gives {X} Q one (Err e) b s t p q = absurd p

-- one value, or one fault, and not both
pub on_fault : {X F : Type 0} (Q : X → Type 0) (P : F → Type 0) (say : F → Refusal) → ((x y : X) → Q x → Q y → x ≡ y) → ((f g : F) → IsLow (say f) → IsLow (say g) → P f → P g → f ≡ g)
    → ((f : F) (x : X) → IsLow (say f) → P f → Q x → ⊥) → IsOnce (ValueOrFault Q P say)
on_fault {X} {F} Q P say one faults apart (Ok x) (Ok y) s t p q = ap (λ (z : X). Ok z) (one x y p q)
on_fault {X} {F} Q P say one faults apart (Ok x) (Err f) s t p q = absurd (apart q.0 x (subst IsLow q.2 t) q.1 p)
on_fault {X} {F} Q P say one faults apart (Err e) (Ok y) s t p q = absurd (apart p.0 y (subst IsLow p.2 s) p.1 q)
on_fault {X} {F} Q P say one faults apart (Err e) (Err f) s t p q =
    ap (λ (r : Refusal). Err r) (p.2 ∙ (ap say (faults p.0 q.0 (subst IsLow p.2 s) (subst IsLow q.2 t) p.1 q.1) ∙ sym q.2))

-- the same for what a function gives
pub on_value : {X F : Type 0} (value : Result X F) (say : F → Refusal) → IsOnce (ValueOrFault (λ (x : X). value ≡ Ok x) (λ (f : F). value ≡ Err f) say)
on_value {X} {F} value say =
    on_fault (λ (x : X). value ≡ Ok x) (λ (f : F). value ≡ Err f) say
    (λ x y p q. let both : ◌≡◌ {A = Result X F} (Ok x) (Ok y) = sym p ∙ q in cc)
    (λ f g s t p q. let both : ◌≡◌ {A = Result X F} (Err f) (Err g) = sym p ∙ q in cc)
    (λ f x s p q. let both : ◌≡◌ {A = Result X F} (Err f) (Ok x) = sym p ∙ q in cc)

-- a file is there, or missing, or too long
unread : (name : List ℕ) (e : Refusal) → e ≡ refusal_of.ReadFailed name → IsLow e → ⊥
unread name e is low = let four : 4 < 4 = subst IsLow is low in omega (arith, four)

there_or_not : (files : Files) (name bytes : List ℕ) → IsReadable files name bytes → files name ≡ None → ⊥
there_or_not files name bytes there none = let e : ◌≡◌ {A = Option (List ℕ)} None (Some bytes) = sym none ∙ there.holds in cc

there_or_long : (files : Files) (name bytes : List ℕ) → IsReadable files name bytes → ((b : List ℕ) × (files name ≡ Some b) × (limit < length b)) → ⊥
there_or_long files name bytes there long =
    let same : long.0 ≡ bytes = same_Some long.0 bytes (sym long.1 ∙ there.holds) in
    let above : limit < length bytes = subst (λ (l : List ℕ). limit < length l) same long.2 in
    let fits = there.fits in
    omega (arith, above, fits)

none_or_long : (files : Files) (name : List ℕ) → files name ≡ None → ((b : List ℕ) × (files name ≡ Some b) × (limit < length b)) → ⊥
none_or_long files name none long = let e : ◌≡◌ {A = Option (List ℕ)} None (Some long.0) = sym none ∙ long.1 in cc

pub on_file : (files : Files) (name : List ℕ) → IsOnce (IsFile files name)
on_file files name (Ok a) (Ok b) s t p q = ap (λ (l : List ℕ). Ok l) (same_Some a b (sym p.holds ∙ q.holds))
on_file files name (Ok a) (Err f) s t p (inl q) = absurd (unread name f q t)
on_file files name (Ok a) (Err f) s t p (inr (inl q)) = absurd (there_or_not files name a p q.1)
on_file files name (Ok a) (Err f) s t p (inr (inr q)) = absurd (there_or_long files name a p q.1)
on_file files name (Err e) b s t (inl p) q = absurd (unread name e p s)
on_file files name (Err e) (Ok b) s t (inr (inl p)) q = absurd (there_or_not files name b q p.1)
on_file files name (Err e) (Ok b) s t (inr (inr p)) q = absurd (there_or_long files name b q p.1)
on_file files name (Err e) (Err f) s t (inr p) (inl q) = absurd (unread name f q t)
on_file files name (Err e) (Err f) s t (inr (inl p)) (inr (inl q)) = ap (λ (r : Refusal). Err r) (p.0 ∙ sym q.0)
on_file files name (Err e) (Err f) s t (inr (inl p)) (inr (inr q)) = absurd (none_or_long files name p.1 q.1)
on_file files name (Err e) (Err f) s t (inr (inr p)) (inr (inl q)) = absurd (none_or_long files name q.1 p.1)
on_file files name (Err e) (Err f) s t (inr (inr p)) (inr (inr q)) = ap (λ (r : Refusal). Err r) (p.0 ∙ sym q.0)

-- and so is the technology that it holds
pub on_tech_file : (files : Files) (name : List ℕ) → IsOnce (IsTechnologyFile files name)
on_tech_file files name = on_then (IsFile files name) IsTechnology (on_file files name) (λ bytes there. on_value (technology bytes) refusal_of.Tech)

-- a refusal of a layout that is neither a failed read nor want of memory is no want of memory below
pub gds_lasts : (f : GdsFault) → IsLow (refusal_of.Gds f) → f ≢ gds.Memory
gds_lasts f low e = let five : 5 < 4 = subst (λ (g : GdsFault). IsLow (refusal_of.Gds g)) e low in omega (arith, five)
