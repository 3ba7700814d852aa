-- What a rectangle takes of each axis.
use Rattle.or_geom.specs.declared.shape.Rect.{Rect}
use Rattle.or_geom.specs.declared.span.Span.{Span}

abbrev pub across : Rect → Span
across r = record { low = r.x1; high = r.x2; ordered = r.wide }

abbrev pub upward : Rect → Span
upward r = record { low = r.y1; high = r.y2; ordered = r.tall }
