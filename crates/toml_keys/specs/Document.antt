-- The TOML document that a file is.
use Rattle.std.specs.Prelude.{ℕ, ◌==◌, List, length, Option, None, if◌then◌else◌}
use Rattle.std.specs.Str.Lossy.{utf8_valid_len}
use Rattle.toml.specs.Data.{Members}
use Rattle.toml.specs.Parse.{parse_document}

-- the TOML document that the bytes are
abbrev pub document : List ℕ → Option Members
document bytes = if utf8_valid_len bytes == length bytes then parse_document bytes else None
