use Rattle.std.proofs.Common.{◌≡◌, ◌∙◌, ◌++◌, ◌∷◌, [], List, length, refl, sym, ap}
use Rattle.std.proofs.lemmas.Option.{get_or_from_slice_get, slice_get_read}
use Rattle.or_geom.specs.declared.shape.Rect.{Rect}
use Rattle.drawn_devices.specs.Groups.{group_at}
use Rattle.drawn_devices.proofs.GroupLaws.{put_in}
use Rattle.drawn_devices.proofs.groups.put.Goals as goal

pub returns : goal.returns
returns c =
    let opened = c.open_group.new.groups.items in
    let old = c.index_mut.result.now in
    let there = slice_get_read opened (length opened) c.args.number old refl c.in_ok-open_group.ensures.inside c.index_mut.ensures.value in
    let e : old ≡ group_at opened c.args.number = sym (get_or_from_slice_get opened c.args.number old [] there) in
    put_in c.args.rect c.args.number c.args.groups.now.items opened c.push.new.self c.in_ok-open_group.ensures (c.in_ok-push.ensures.ok ∙ ap (λ (l : List Rect). l ++ c.args.rect ∷ []) e)
