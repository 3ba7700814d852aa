-- Labels with their nets as plain data.
use Rattle.net_extractor.specs.declared.label.NetLabel.{NetLabel}
use Rattle.net_extractor.specs.PlainNetLabel.{PlainNetLabel}

abbrev pub plain_net : NetLabel → PlainNetLabel
plain_net e = record { path = e.label.now.path.now; name = e.label.now.name.now; layer = e.label.now.layer; at = e.label.now.at; net = e.net }
