-- Each outer turn is made of quarter turns after a reflection or none.
use Rattle.std.proofs.Common.{ap, ◌∙◌}
use Rattle.or_geom.specs.Place.{quarter, turned}
use Rattle.or_geom.proofs.PlaceLaws.{quarters_270, quarters_mx90, quarters_mx180, quarters_mx270}
use Rattle.or_geom.proofs.place.turn_after.Goals as goal

pub returns-in-R270 : goal.returns-in-R270
returns-in-R270 c p =
    rw c.in-R270.is (c.quarter_after-in-R270-3.ensures p ∙ (ap quarter (c.quarter_after-in-R270-2.ensures p ∙ ap quarter (c.quarter_after-in-R270.ensures p)) ∙ quarters_270 (turned c.args.inner p)))

pub returns-in-MX90 : goal.returns-in-MX90
returns-in-MX90 c p = rw c.in-MX90.is (c.quarter_after-in-MX90.ensures p ∙ (ap quarter (c.reflected_after-in-MX90.ensures p) ∙ quarters_mx90 (turned c.args.inner p)))

pub returns-in-MX180 : goal.returns-in-MX180
returns-in-MX180 c p =
    rw c.in-MX180.is (c.quarter_after-in-MX180-2.ensures p ∙ (ap quarter (c.quarter_after-in-MX180.ensures p ∙ ap quarter (c.reflected_after-in-MX180.ensures p)) ∙ quarters_mx180 (turned c.args.inner p)))

pub returns-in-MX270 : goal.returns-in-MX270
returns-in-MX270 c p =
    rw c.in-MX270.is
    (c.quarter_after-in-MX270-3.ensures p
    ∙ (ap quarter (c.quarter_after-in-MX270-2.ensures p ∙ ap quarter (c.quarter_after-in-MX270.ensures p ∙ ap quarter (c.reflected_after-in-MX270.ensures p))) ∙ quarters_mx270 (turned c.args.inner p)))
