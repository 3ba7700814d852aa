-- What a store that never fails holds.
use Rattle.or_host.specs.Files.{Files}
use Rattle.or_host.specs.FileList.{files_of}
use Rattle.or_host.specs.declared.sure_store.SureStore.{SureStore}

abbrev pub kept : SureStore → Files
kept s = files_of s.files.items
