use Rattle.std.proofs.Common.{◌≡◌, inl, inr, ℕ, refl, subst, arith}
use Rattle.std.specs.Prelude.{slice_get, Some}
use Rattle.std.proofs.lemmas.Bool.{cases_lt}
use Rattle.std.proofs.lemmas.Option.{slice_get_read}
use Rattle.or_geom.proofs.ListLaws.{contained_at, one_at}
use Rattle.label_binding.proofs.PlaceLaws.{at_contained}
use Rattle.net_extractor.specs.declared.run.RunShape.{RunShape}
use Rattle.net_extractor.specs.Sets.{AreTogether}
use Rattle.net_extractor.proofs.SetLaws.{alike_on}
use Rattle.net_extractor.proofs.marks.is_run_with.Goals as goal

pub root-requires-clause-inside : goal.root-requires-clause-inside
root-requires-clause-inside c =
    let own = c.own-item.result in
    let lt = c.requires.run own (contained_at c.args.run.now c.loop-own.own-index own (slice_get_read c.args.run.now _ c.loop-own.own-index own refl c.loop-own-test.true c.own-item.is)) in
    omega (arith, lt, c.loop-own.invariant.alike.sized)

pub loop-own-preserved : goal.loop-own-preserved
loop-own-preserved c =
    let own = c.own-item.result in
    let run = c.args.run.now in
    let at = c.loop-own.own-index in
    let new = c.root.new.above in
    let same : c.root.result ≡ c.args.top = omega (arith, c.if-root-top.false) in
    let here : slice_get run at ≡ Some own = slice_get_read run _ at own refl c.loop-own-test.true c.own-item.is in
    record {
      alike = alike_on _ _ _ c.loop-own.invariant.alike c.root.ensures.alike;
      with_top = λ k other lt there. elim (cases_lt k at) [
        | inl before ↦ c.root.ensures.alike.kept.keeps other.place c.args.top (c.loop-own.invariant.with_top k other before there)
        | inr ge ↦
            let e : k ≡ at = omega (arith, lt, ge) in
            let is : own ≡ other = one_at run at own other here (subst (λ (j : ℕ). slice_get run j ≡ Some other) e there) in
            subst (λ (s : RunShape). AreTogether new s.place c.args.top) is (subst (AreTogether new own.place) same (c.root.ensures.alike.kept.keeps own.place c.root.result c.root.ensures.leads))
      ];
    }

pub returns-clause-with_top : goal.returns-clause-with_top
returns-clause-with_top c = λ yes own h.
    let lt = h.1 in
    c.loop-own.invariant.with_top h.0 own (omega (arith, lt, c.loop-own-test.false)) (at_contained c.args.run.now own h)
