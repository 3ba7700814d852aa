-- The bytes of a vector.
use Rattle.std.specs.Prelude.{List, ℕ}
use Rattle.std.specs.declared.vec.Vec.{Vec}
use Rattle.std.specs.declared.alloc.Global.{Global}

abbrev pub bytes_of : Vec ℕ Global → List ℕ
bytes_of v = v.items
