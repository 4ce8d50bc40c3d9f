use Rattle.calls.proofs.FormatLaws.{cut_length, too_many, cut_elements, buffer_there}
use Rattle.calls.proofs.format.after_buffer.Goals as goal

pub returns-then-left-lt2 : goal.returns-then-left-lt2
returns-then-left-lt2 c = cut_length _ _ _ c.requires.inside.0 c.requires.inside.1 c.if-left-lt2.true

pub returns-then-n-gt-MOST_ELEMENTS : goal.returns-then-n-gt-MOST_ELEMENTS
returns-then-n-gt-MOST_ELEMENTS c = too_many _ _ _ c.requires.inside.0 c.requires.inside.1 c.number_at-n.ensures c.if-left-lt2.false c.if-n-gt-MOST_ELEMENTS.true

pub returns-then-left-size : goal.returns-then-left-size
returns-then-left-size c =
    cut_elements _ _ _ c.requires.inside.0 c.requires.inside.1 c.number_at-n.ensures c.if-left-lt2.false c.if-n-gt-MOST_ELEMENTS.false c.if-left-size.true

pub returns : goal.returns
returns c =
    buffer_there _ _ _ c.requires.inside.0 c.requires.inside.1 c.number_at-n.ensures c.if-left-lt2.false c.if-n-gt-MOST_ELEMENTS.false c.if-left-size.false
