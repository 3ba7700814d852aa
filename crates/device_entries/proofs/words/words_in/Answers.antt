use Rattle.std.proofs.Common.{◌≡◌, ◌∷◌, ◌∙◌, sym, arith}
use Rattle.spice_text.specs.LogicalLines.{is_blank}
use Rattle.spice_text.specs.Words.{words_of}
use Rattle.spice_text.proofs.LineLaws.{place_within}
use Rattle.spice_text.proofs.WordLaws.{first_word, one_found}
use Rattle.device_entries.proofs.words.words_in.Goals as goal

pub split_at-requires : goal.split_at-requires
split_at-requires c = let near = place_within is_blank c.bytes.left.now in omega (arith, c.word_length.ensures, near)

pub bytes-preserved : goal.bytes-preserved
bytes-preserved c =
    let first : words_of c.bytes.left.now ≡ c.in_ok-from_bytes.field-0 ∷ words_of c.split_at.result.1.now =
    first_word c.bytes.left.now c.in-Some.others.now c.in_ok-from_bytes.field-0 c.split_at.result.1.now c.in-Some.first.now c.word_length.result c.in-Some.ensures.cases.0 (sym c.is_space.ensures ∙ c.if-is_space.false) c.word_length.ensures
    (c.in_ok-from_bytes.ensures ∙ c.split_at.ensures.front) c.split_at.ensures.back in
    rw c.in_ok-push.ensures.items (one_found c.bytes.words.items (words_of c.bytes.left.now) (words_of c.split_at.result.1.now) c.in_ok-from_bytes.field-0 first ∙ c.bytes.invariant)
