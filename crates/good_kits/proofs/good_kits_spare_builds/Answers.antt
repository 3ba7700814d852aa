use Rattle.good_kits.proofs.BuildLaws.{good_kits_spare_builds}
use Rattle.good_kits.proofs.good_kits_spare_builds.Goals as goal

pub returns : goal.returns
returns c = good_kits_spare_builds
