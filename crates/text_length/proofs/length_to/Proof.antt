-- `length_to` meets its contract: by nodes the length up to the ceiling and one; by the text what was taken off that.
use borrow.Author.Rules.{rules}
use Rattle.text_length.proofs.length_to.Statement.{statement}
use Rattle.text_length.proofs.length_to.Tie as tie

add_most : tie.Need-overflow_add-most
add_most c = search rules

length-of-many-requires : tie.Need-length_of_many-requires
length-of-many-requires c κs = search rules

returns : tie.Need-returns-then-most-ge-BY_NODES
returns c = search rules

left-after-text-requires : tie.Need-left_after_text-left-requires
left-after-text-requires c κs = search rules

sub-result : tie.Need-overflow_sub-result
sub-result c = search rules

returns-2 : tie.Need-returns
returns-2 c = search rules

pub length_to_spec : {M : Type 1} → statement M
length_to_spec =
    tie.close
    (tie.spec
    add_most
    length-of-many-requires
    returns
    left-after-text-requires
    sub-result
    returns-2)
