use Rattle.std.proofs.Common.{◌≡◌, Bool, true, false, sym, ap, ◌∙◌, arith}
use Rattle.std.proofs.lemmas.Fmt.{parse-decimal}
use Rattle.std.proofs.lemmas.Slice.Eq.{bytes_eq-Decides}
use Rattle.std.specs.Fmt.{decimal}
use Rattle.openram_cli.proofs.command.demo_number.Goals as goal

pub returns-in_default : goal.returns-in_default
returns-in_default c = λ n le is.
    let ok = parse-decimal 16 n c.args.word.now c.parse.result (omega (arith, le)) (omega (arith, le)) is c.parse.ensures.value.0 in
    let both = sym c.in_default.is ∙ ok in
    absurd cc

pub returns : goal.returns
returns c = λ n le is.
    let ok = parse-decimal 16 n c.args.word.now c.parse.result (omega (arith, le)) (omega (arith, le)) is c.parse.ensures.value.0 in
    let both = sym c.in-Ok.is ∙ ok in
    let same : c.in-Ok.number ≡ n = cc in
    let text = c.format.ensures.text ∙ (ap decimal same ∙ sym is) in
    let equal = (bytes_eq-Decides c.format.result.now c.args.word.now).1 text in
    let clash : ◌≡◌ {A = Bool} false true = sym c.if-eq.false ∙ (c.eq.ensures ∙ equal) in
    absurd cc
