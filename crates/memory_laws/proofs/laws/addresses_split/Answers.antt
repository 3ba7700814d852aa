use Rattle.memory_laws.proofs.laws.addresses_split.Goals as goal
use Rattle.memory_laws.proofs.Decode.{addresses_split}

pub returns : goal.returns
returns c = addresses_split
