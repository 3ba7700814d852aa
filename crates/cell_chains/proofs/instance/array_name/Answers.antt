-- The text is one list of bytes, however its pieces are joined.
use Rattle.std.proofs.Common.{ℕ, List, ◌∷◌, sym, ap, ◌∙◌, append_assoc}
use Rattle.std.specs.Fmt.{decimal}
use Rattle.std.proofs.lemmas.Result.{IfOk-weaker}
use Rattle.cell_chains.proofs.instance.array_name.Goals as goal

pub returns : goal.returns
returns c =
    let joined = append_assoc (decimal c.args.place) (46 ∷ decimal c.args.column) (46 ∷ decimal c.args.row) in
    IfOk-weaker c.from_bytes.result _ _ (λ name e. e ∙ (c.as_bytes.ensures.value ∙ (c.in_ok-text.ensures.ok ∙ sym (ap (λ (text : List ℕ). 35 ∷ text) joined)))) c.from_bytes.ensures
