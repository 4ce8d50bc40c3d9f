use Rattle.wire.proofs.TextLaws.{put_few, put_many}
use Rattle.wire.proofs.text.+put_decimal.Goals as goal

pub returns-then-x-lt10 : goal.returns-then-x-lt10
returns-then-x-lt10 t c = put_few _ c.if-x-lt10.true c.digit.ensures c.put.ensures

pub returns : goal.returns
returns t c = put_many _ c.if-x-lt10.false c.ranges.x.fits c.digit-2.ensures c.put_decimal-end.ensures c.put-2.ensures
