use Rattle.std.proofs.Common.{◌∙◌}
use Rattle.or_host.proofs.FileLists.{put_set, put_push}
use Rattle.or_host.proofs.file.put_bytes.Goals as goal

pub returns-in-Some-clause-ok : goal.returns-in-Some-clause-ok
returns-in-Some-clause-ok c =
    put_set c.args.files.now.items _ c.args.name.now c.args.bytes.now c.in-Some.i c.index_mut.result.now c.from_vec-bytes.result c.deref.ensures.value c.in-Some.ensures c.index_mut.ensures.value (c.from_vec-bytes.ensures ∙ c.in_ok-from_slice.ensures.items)

pub returns-in_ok-push-in-None-clause-ok : goal.returns-in_ok-push-in-None-clause-ok
returns-in_ok-push-in-None-clause-ok c =
    put_push c.args.files.now.items _ _ c.args.name.now c.args.bytes.now _ c.deref.ensures.value c.in-None.ensures (c.in_ok-name-in-None.ensures ∙ c.as_bytes.ensures.value) (c.from_vec-bytes.ensures ∙ c.in_ok-from_slice.ensures.items) c.in_ok-push-in-None.ensures.items
