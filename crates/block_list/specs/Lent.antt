-- The answer of a block whose map was lent: its number and position, and the map as the call left it.
use Rattle.std.specs.declared.result.Result.{Result}
use Rattle.facts.specs.declared.RefusedAt.{RefusedAt}
use Rattle.facts.specs.Answer.{number_at, position_at}
use Rattle.block_map.specs.declared.RegisterMap.{RegisterMap}
use Rattle.block.specs.Block.{BlockAnswer}

abbrev pub answer : Result (Unit {0}) RefusedAt → RegisterMap → BlockAnswer
answer r m = record { number = number_at r; position = position_at r; map = m }
