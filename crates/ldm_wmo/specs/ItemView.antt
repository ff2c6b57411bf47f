-- What contracts see of an item.
use Rattle.ldm_wmo.specs.declared.item.Item.{Item}
use Rattle.ldm_wmo.specs.declared.item.Item.TheVariants as item
use Rattle.ldm_wmo.specs.Items.{Found, Bulletin, Bad}

abbrev pub found_of : Item → Found
found_of (item.Bulletin at seqno heading bytes) = Bulletin at seqno heading.items bytes.now
found_of (item.Bad at) = Bad at
