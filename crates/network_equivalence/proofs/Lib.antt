pub mod ConsistentLaws
