use Rattle.std.proofs.Common.{not, ap, map, ◌∙◌}
use Rattle.spice_text.specs.Words.{is_among, with_name}
use Rattle.spice_text.specs.NameLists.{bytes_of}
use Rattle.spice_text.proofs.NameLaws.{among_keys, key_more}
use Rattle.spice_text.proofs.name_set.NameSet.add.Goals as goal

pub returns-clause-new : goal.returns-clause-new
returns-clause-new c =
    c.in_ok-insert.ensures.added ∙ ap not (among_keys c.in_ok-name.name c.self.inside.seen.keys) ∙ (λ i. not (is_among (c.in_ok-name.ensures.items i) (c.self.view_is i)))

pub returns-clause-names : goal.returns-clause-names
returns-clause-names c =
    ap (map bytes_of) c.in_ok-insert.ensures.keys ∙ key_more c.in_ok-name.name c.self.inside.seen.keys ∙ (λ i. with_name (c.self.view_is i) (c.in_ok-name.ensures.items i))
