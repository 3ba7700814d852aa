-- Faults that are looked for stage by stage: one stage has one, or is passed and the next is looked at.
use Rattle.std.proofs.Common.{◌≡◌, ◌⊎◌, inl, inr}

-- two that have P are one
abbrev pub AtMostOne : {F : Type 0} → (F → Type 0) → Type 0
AtMostOne {F} P = (f g : F) → P f → P g → f ≡ g

-- nothing that has P is there beside Q
abbrev pub NeverBeside : {F : Type 0} → (F → Type 0) → Type 0 → Type 0
NeverBeside {F} P Q = (f : F) → P f → Q → ⊥

-- the stage has the fault, or it is passed and the next has it
abbrev pub Staged : {F : Type 0} → (F → Type 0) → Type 0 → (F → Type 0) → F → Type 0
Staged Fails Passed Next f = Fails f ⊎ (Passed × Next f)

pub one_staged : {F : Type 0} (Fails : F → Type 0) (Passed : Type 0) (Next : F → Type 0) → AtMostOne Fails → NeverBeside Fails Passed → AtMostOne Next → AtMostOne (Staged Fails Passed Next)
one_staged Fails Passed Next one apart next f g (inl a) (inl b) = one f g a b
one_staged Fails Passed Next one apart next f g (inl a) (inr b) = absurd (apart f a b.0)
one_staged Fails Passed Next one apart next f g (inr a) (inl b) = absurd (apart g b a.0)
one_staged Fails Passed Next one apart next f g (inr a) (inr b) = next f g a.1 b.1

pub none_staged : {F : Type 0} (Fails : F → Type 0) (Passed : Type 0) (Next : F → Type 0) (Done : Type 0) → NeverBeside Fails Done → NeverBeside Next Done → NeverBeside (Staged Fails Passed Next) Done
none_staged Fails Passed Next Done fails next f (inl a) done = fails f a done
none_staged Fails Passed Next Done fails next f (inr a) done = next f a.1 done

-- faults of a kind that are told of one thing
abbrev pub ToldOf : {X F : Type 0} → (X → Type 0) → (X → F) → F → Type 0
ToldOf {X} {F} Is tell f = (x : X) × Is x × (f ≡ tell x)
