-- Ranges without an end. Assumes nothing.
use Rattle.std.specs.Prelude.{true}
use Rattle.ranges.specs.Sets.{Ranges}

abbrev pub every_price : Ranges
every_price = record {
  static = λ anchor price. true;
  dynamic = λ anchor price. true;
  extended_static = λ anchor price. true;
  extended_dynamic = λ anchor price. true;
}
