use Rattle.versions.proofs.Writes.{own_lent_readable, own_counted, own_need}
use Rattle.versions.proofs.changing.own_need.Goals as goal

pub data_length-requires : goal.data_length-requires
data_length-requires c = search own_lent_readable

pub need-requires : goal.need-requires
need-requires c = own_counted _ _ _ _ c.requires _ c.place_address-at.ensures _ c.data_length.ensures

pub returns : goal.returns
returns c = own_need _ _ _ _ c.requires _ c.place_address-at.ensures _ c.data_length.ensures _ c.need.ensures
