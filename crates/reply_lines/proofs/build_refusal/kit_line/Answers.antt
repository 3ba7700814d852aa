use Rattle.reply_lines.proofs.build_refusal.kit_line.Goals as goal

pub returns-in-PinMissing : goal.returns-in-PinMissing
returns-in-PinMissing c = rw c.in-PinMissing.is c.with_names.ensures

pub returns-in-WidthDiffers : goal.returns-in-WidthDiffers
returns-in-WidthDiffers c = rw c.in-WidthDiffers.is c.with_name-in-WidthDiffers.ensures
