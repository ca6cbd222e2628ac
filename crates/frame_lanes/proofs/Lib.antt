pub mod LaneSumLaws
