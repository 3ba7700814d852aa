-- Steps that leave nothing open lead to an outcome that leaves nothing open.
use Rattle.std.proofs.Common.{◌≡◌, ◌⊎◌, inl, inr, ℕ, List, length, Option, Some, None, Result, Ok, Err, refl, lit<}
use Rattle.std.proofs.lemmas.Bool.{cases_lt}
use Rattle.or_host.specs.Files.{Files}
use Rattle.tech_rules.specs.Technology.{technology}
use Rattle.reply_lines.specs.declared.refusal.Refusal.{Refusal}
use Rattle.reply_lines.specs.declared.refusal.Refusal.TheVariants as refusal_of
use Rattle.command_steps.specs.File.{IsFile, IsTechnology, IsTechnologyFile, limit}
use Rattle.command_steps.specs.Once.{IsLow}
use Rattle.command_steps.specs.Outcome.{Then, ValueOrFault, WithoutRefusal}
use Rattle.read_answers.proofs.TechLaws.{technologies_last}
use Rattle.design_answers.specs.DesignAnswers.{HasOutcome}
use Rattle.design_answers.proofs.LowLaws.{tech_low}

-- a step after a value
pub after : {X Y : Type 0} (P : Result X Refusal → Type 0) (Q : X → Result Y Refusal → Type 0) (x : X) → P (Ok x) → HasOutcome (Q x)
    → HasOutcome (Then P Q)
after P Q x p (Ok y, decided, q) = (Ok y, tt, (x, p, q))
after P Q x p (Err refusal, decided, q) = (Err refusal, decided, inr (x, p, q))

-- one step after another
pub answered_then : {X Y : Type 0} (P : Result X Refusal → Type 0) (Q : X → Result Y Refusal → Type 0) → HasOutcome P
    → ((x : X) → P (Ok x) → HasOutcome (Q x)) → HasOutcome (Then P Q)
answered_then P Q (Ok x, decided, p) each = after P Q x p (each x p)
answered_then P Q (Err refusal, decided, p) each = (Err refusal, decided, inl p)

pub answered_value : {X : Type 0} (Q : X → Type 0) (x : X) → Q x → HasOutcome (WithoutRefusal Q)
answered_value Q x q = (Ok x, tt, q)

-- a value, or a fault that is refused by a low status
pub answered_by : {X F : Type 0} (Q : X → Type 0) (P : F → Type 0) (say : F → Refusal) → ((x : X) × Q x) ⊎ ((f : F) × IsLow (say f) × P f)
    → HasOutcome (ValueOrFault Q P say)
answered_by Q P say (inl value) = (Ok value.0, tt, value.1)
answered_by Q P say (inr fault) = (Err (say fault.0), fault.1, (fault.0, fault.2, refl))

-- what a function gives
pub answered_result : {X F : Type 0} (value : Result X F) (say : F → Refusal) → ((f : F) → value ≡ Err f → IsLow (say f))
    → HasOutcome (ValueOrFault (λ (x : X). value ≡ Ok x) (λ (f : F). value ≡ Err f) say)
answered_result {X} {F} value say low = by_result value refl
  where
    by_result : (given : Result X F) → value ≡ given → HasOutcome (ValueOrFault (λ (x : X). value ≡ Ok x) (λ (f : F). value ≡ Err f) say)
    by_result (Ok x) e = (Ok x, tt, e)
    by_result (Err f) e = (Err (say f), low f e, (f, e, refl))

-- a file is there, or missing, or too long
pub answered_file : (files : Files) (name : List ℕ) → HasOutcome (IsFile files name)
answered_file files name = by_bytes (files name) refl
  where
    by_bytes : (given : Option (List ℕ)) → files name ≡ given → HasOutcome (IsFile files name)
    by_bytes None e = (Err (refusal_of.NoFile name), lit< tt, inr (inl (refl, e)))
    by_bytes (Some bytes) e = elim (cases_lt limit (length bytes)) [
      | inl over ↦ (Err (refusal_of.TooLong name), lit< tt, inr (inr (refl, (bytes, e, over))))
      | inr fits ↦ (Ok bytes, tt, record { holds = e; fits = fits })
    ]

-- and a technology is read from it, or refused
pub answered_tech_file : (files : Files) (name : List ℕ) → HasOutcome (IsTechnologyFile files name)
answered_tech_file files name =
    answered_then (IsFile files name) IsTechnology (answered_file files name)
    (λ bytes there. answered_result (technology bytes) refusal_of.Tech (λ f e. tech_low f (technologies_last bytes f e)))
