-- Internal: the joint as the functions hold it. Nothing is proved here.
use Rattle.compare_theory.specs.Joint.{Joint, joint}
use Rattle.compare_theory.specs.declared.Tables.{Tables}

-- the joint that the tables stand for
abbrev pub joint_of : Tables → Joint
joint_of t = joint t.inputs t.gates t.wires t.weights
