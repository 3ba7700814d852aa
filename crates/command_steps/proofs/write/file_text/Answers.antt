use Rattle.std.proofs.Common.{ℕ, List, sym, subst}
use Rattle.std.specs.Str.{IsUtf8}
use Rattle.std.proofs.lemmas.Str.{IsUtf8-from_ascii}
use Rattle.command_steps.proofs.write.file_text.Goals as goal

pub unreachable-requires : goal.unreachable-requires
unreachable-requires c =
    let case = rw c.in-Err.is at c.from_utf8.ensures.cases in
    case.0 (subst (λ (bytes : List ℕ). IsUtf8 bytes) (sym c.as_bytes.ensures) (IsUtf8-from_ascii c.args.name.now c.requires))
