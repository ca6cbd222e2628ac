-- Internal: the record that the code makes of a record: the same network in the other version. Nothing is proved here.
use Rattle.network.specs.declared.Network.{Network}
use Rattle.pmn_versions.specs.Versions.{other_version}

-- a record with the other version
unfoldable pub other_record : Network → Network
other_record r = record {
  board = other_version r.board;
  inputs = r.inputs;
  gates = r.gates;
  outputs = r.outputs;
  fanins = r.fanins;
  signals = r.signals;
  weights = r.weights;
  thresholds = r.thresholds;
  drivers = r.drivers;
}
