-- A result whose fault alone is told otherwise.
use Rattle.std.proofs.Common.{◌≡◌, Result, Ok, Err, subst, sym}
use Rattle.std.specs.Result.{MatchResult, IfOk, IfErr, IsErrAnd}

pub told_ok : {T E D : Type 0} (r : Result T E) (s : Result T D) (told : E → D → Type 0) (P : T → Type 0) → MatchResult r (λ x. s ≡ Ok x) (λ e. IsErrAnd s (told e)) → IfOk r P → IfOk s P
told_ok (Ok x) s told P is h = subst (λ t. IfOk t P) (sym is) h
told_ok (Err e) (Ok x) told P is h = absurd is
told_ok (Err e) (Err d) told P is h = tt

pub told_err : {T E D : Type 0} (r : Result T E) (s : Result T D) (told : E → D → Type 0) (P : E → Type 0) (Q : D → Type 0) → ((e : E) (d : D) → told e d → P e → Q d) → MatchResult r (λ x. s ≡ Ok x) (λ e. IsErrAnd s (told e))
    → IfErr r P → IfErr s Q
told_err (Ok x) s told P Q each is h = subst (λ t. IfErr t Q) (sym is) tt
told_err (Err e) (Ok x) told P Q each is h = absurd is
told_err (Err e) (Err d) told P Q each is h = each e d is h
